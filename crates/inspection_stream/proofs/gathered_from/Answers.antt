-- `gathered_from` is right because it goes by whether all fields of the plan have passed.
use mathlib.Core.Path.{sym, ◌∙◌}
use Rattle.inspection_stream.proofs.WholeLaws.{from_passed, from_fault}
use Rattle.inspection_stream.proofs.gathered_from.Goals as goal

pub returns-then-passed : goal.returns-then-passed
returns-then-passed c =
    c.begin-none.ensures ∙ sym (from_passed _ _ c.if-passed.true)

pub returns : goal.returns
returns c =
    from_fault _ _ _ c.begin-none.ensures c.if-passed.false
