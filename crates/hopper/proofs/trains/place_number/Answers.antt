-- `place_number` is right because it asks the definition's questions in the definition's order: the list, the wagon, the place.
use mathlib.Core.Path.{sym, ◌∙◌}
use borrow.Author.Tests.{le-ltb, lt-ltb}
use Rattle.hopper.proofs.TrainLaws.{place_list, place_wagon, place_past, place_none}
use Rattle.hopper.proofs.trains.place_number.Goals as goal

pub returns-then-number-ne-ACCEPTED : goal.returns-then-number-ne-ACCEPTED
returns-then-number-ne-ACCEPTED c =
    let number = c.judge_list-number.ensures in
    number ∙ sym (place_list _ _ _ (λ e. c.if-number-ne-ACCEPTED.true (number ∙ e)))

pub returns-then-not-wagon_fits : goal.returns-then-not-wagon_fits
returns-then-not-wagon_fits c =
    let judged_0 = sym c.judge_list-number.ensures ∙ c.if-number-ne-ACCEPTED.false in
    sym (place_wagon _ _ _ judged_0 (sym c.wagon_fits.ensures ∙ c.if-not-wagon_fits.true))

pub returns-then-from-place : goal.returns-then-from-place
returns-then-from-place c =
    let judged_0 = sym c.judge_list-number.ensures ∙ c.if-number-ne-ACCEPTED.false in
    sym
    (place_past _ _ _ judged_0 (sym c.wagon_fits.ensures ∙ c.if-not-wagon_fits.false)
    (le-ltb _ _ (rw c.from.ensures at c.if-from-place.true)))

pub returns : goal.returns
returns c =
    let judged_0 = sym c.judge_list-number.ensures ∙ c.if-number-ne-ACCEPTED.false in
    sym
    (place_none _ _ _ judged_0 (sym c.wagon_fits.ensures ∙ c.if-not-wagon_fits.false)
    (lt-ltb _ _ (rw c.from.ensures at c.if-from-place.false)))
