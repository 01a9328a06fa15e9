-- `couple_wagon` is right because it is the change to the list with one wagon more.
use mathlib.Core.Path.{refl, ◌∙◌}
use Rattle.hopper.proofs.couple_wagon.Goals as goal

pub returns : goal.returns
returns c =
    c.change_train.ensures ∙ rw c.with_more.ensures refl
