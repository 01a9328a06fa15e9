-- `number_of` is right because it keeps the fault's number, and else asks for the end.
use mathlib.Core.Path.{sym, ◌∙◌}
use Rattle.sheets.proofs.ReadLaws.{then_rest, then_keeps}
use Rattle.log_stream.proofs.number_of.Goals as goal

pub returns-then-v-ne-ACCEPTED : goal.returns-then-v-ne-ACCEPTED
returns-then-v-ne-ACCEPTED c =
    sym (then_keeps _ _ c.if-v-ne-ACCEPTED.true)

pub returns-then-v : goal.returns-then-v
returns-then-v c =
    sym (then_rest _ _ c.if-v-ne-ACCEPTED.false ∙ rw c.if-v.true)

pub returns : goal.returns
returns c =
    sym (then_rest _ _ c.if-v-ne-ACCEPTED.false ∙ rw c.if-v.false)
