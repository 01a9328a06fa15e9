-- `mark_number` is right because it asks the definition's two tests in the definition's order.
use mathlib.Core.Path.{sym, ◌∙◌}
use borrow.Author.Tests.{le-ltb, lt-ltb}
use Rattle.units.proofs.JudgingLaws.{failed, held}
use Rattle.rings.proofs.marking.mark_number.Goals as goal

pub returns-then-not-sound : goal.returns-then-not-sound
returns-then-not-sound c =
    sym (failed _ _ _ c.if-not-sound.true)

pub returns-then-from-station : goal.returns-then-from-station
returns-then-from-station c =
    sym (held _ _ _ c.if-not-sound.false ∙ failed _ _ _ (le-ltb _ _ (rw c.from.ensures at c.if-from-station.true)))

pub returns : goal.returns
returns c =
    sym (held _ _ _ c.if-not-sound.false ∙ held _ _ _ (lt-ltb _ _ (rw c.from.ensures at c.if-from-station.false)))
