-- `plan_passed` is right because its tests are those of the end's row.
use mathlib.Core.Path.{refl}
use Rattle.fields.specs.Fields.{is_allowed}
use Rattle.sheets.proofs.reading.plan_passed.Goals as goal

pub returns : goal.returns
unfolding is_allowed
returns c =
    rw c.allocations_for-due.ensures refl
