-- `couple_train` is right because it is the change of the train that has no wagon.
use mathlib.Core.Path.{refl, ◌∙◌}
use Rattle.hopper.proofs.couple_train.Goals as goal

pub returns : goal.returns
returns c =
    c.change_train.ensures ∙ rw c.blank_train.ensures refl
