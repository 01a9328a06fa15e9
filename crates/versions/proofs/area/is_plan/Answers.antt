-- `is_plan` is right because it reads just these bytes.
use mathlib.Core.Path.{refl}
use Rattle.versions.specs.Area.{is_plan}
use Rattle.versions.proofs.area.is_plan.Goals as goal

pub returns : goal.returns
unfolding is_plan
returns c =
    rw c.plan_number.ensures refl
