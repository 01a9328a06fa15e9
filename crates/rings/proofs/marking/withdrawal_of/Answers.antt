-- `withdrawal_of` is right because its branch is the definition's own.
use Rattle.rings.proofs.MarkLaws.{withdrawn, not_withdrawn}
use mathlib.Core.Path.{sym, ◌∙◌}
use Rattle.rings.proofs.marking.withdrawal_of.Goals as goal

pub returns-then-held : goal.returns-then-held
returns-then-held c =
    rw c.from.ensures (sym (withdrawn _ _ c.if-held.true))

pub returns : goal.returns
returns c =
    c.none_withdrawn.ensures ∙ sym (not_withdrawn _ _ c.if-held.false)
