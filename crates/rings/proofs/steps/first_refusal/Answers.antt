-- `first_refusal` is right because it asks the definition's three tests in the definition's order.
use mathlib.Core.Path.{sym, ◌∙◌}
use borrow.Author.Tests.{lt-leb, le-leb}
use Rattle.units.proofs.JudgingLaws.{failed, held}
use Rattle.rings.proofs.steps.first_refusal.Goals as goal

pub returns-then-not-sound : goal.returns-then-not-sound
returns-then-not-sound c =
    sym (failed _ _ _ c.if-not-sound.true)

pub returns-then-not-named : goal.returns-then-not-named
returns-then-not-named c =
    sym (held _ _ _ c.if-not-sound.false ∙ failed _ _ _ c.if-not-named.true)

pub returns-then-clock-gt-MOST_CLOCK : goal.returns-then-clock-gt-MOST_CLOCK
returns-then-clock-gt-MOST_CLOCK c =
    let sound = c.if-not-sound.false in
    let named = c.if-not-named.false in
    sym (held _ _ _ sound ∙ held _ _ _ named ∙ failed _ _ _ (lt-leb _ _ c.if-clock-gt-MOST_CLOCK.true))

pub returns : goal.returns
returns c =
    let sound = c.if-not-sound.false in
    let named = c.if-not-named.false in
    sym (held _ _ _ sound ∙ held _ _ _ named ∙ held _ _ _ (le-leb _ _ c.if-clock-gt-MOST_CLOCK.false))
