-- `change_wagon` is right because what is refused before the planner is asked is refused first, and then it is the change to the new list.
use mathlib.Core.Path.{◌∙◌}
use Rattle.hopper.proofs.TrainLaws.{refused_before, then_planned}
use Rattle.hopper.proofs.change_wagon.Goals as goal

pub returns-then-number-ne-ACCEPTED : goal.returns-then-number-ne-ACCEPTED
returns-then-number-ne-ACCEPTED c =
    refused_before _ _ _ _ _ c.with_wagon-list.ensures c.place_number-number.ensures c.if-number-ne-ACCEPTED.true

pub returns : goal.returns
returns c =
    c.change_train.ensures ∙ then_planned _ _ _ _ _ c.with_wagon-list.ensures c.place_number-number.ensures c.if-number-ne-ACCEPTED.false
