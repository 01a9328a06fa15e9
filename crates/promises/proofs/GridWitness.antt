-- The run is computed.
use mathlib.Core.Path.{refl}
use Rattle.promises.specs.GridWitness.{GridHappens}
use Rattle.promises.proofs.Computed.{running}

pub grid_happens : GridHappens
unfolding running
grid_happens =
    record {
      plan = refl;
      earlier_plan = refl;
      judged = refl;
      older_judged = refl;
      older_not_planned = refl;
      older_not_opened = refl;
      off = refl;
      spare = refl;
      records = refl;
    }
