-- The runs are computed.
use mathlib.Core.Path.{refl}
use Rattle.promises.specs.MarkWitness.{MarksHappen}
use Rattle.promises.proofs.Computed.{running}

pub marks_happen : MarksHappen
unfolding running
marks_happen =
    record {
      refused = refl;
      judged = refl;
      too_soon = refl;
      late_enough = refl;
      timely_marks = refl;
      fddi_marks = refl;
      earlier_marks = refl;
    }
