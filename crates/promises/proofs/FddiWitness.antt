-- The run and the visits are computed.
use mathlib.Core.Path.{refl}
use Rattle.promises.specs.FddiWitness.{FddiHappens}
use Rattle.promises.proofs.Computed.{running}

pub fddi_happens : FddiHappens
unfolding running
fddi_happens =
    record {
      judged = refl;
      not_planned = refl;
      not_opened = refl;
      records = refl;
      late_here = refl;
      late_there = refl;
      unused = refl;
      not_timely = refl;
      sound = refl;
      early = refl;
      just = refl;
      tardy = refl;
    }
