-- `uncouple_wagon` is right because it is the change to the list without its last wagon.
use mathlib.Core.Path.{refl, ◌∙◌}
use Rattle.hopper.proofs.uncouple_wagon.Goals as goal

pub returns : goal.returns
returns c =
    c.change_train.ensures ∙ rw c.without_last.ensures refl
