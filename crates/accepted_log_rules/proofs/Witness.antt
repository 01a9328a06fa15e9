-- The logs are computed.
use mathlib.Core.Path.{refl}
use Rattle.promises.proofs.Computed.{running}
use Rattle.inspection.specs.Opening.{passing_times, begun}
use Rattle.inspection.specs.Frames.{any_below, frames_fit}
use Rattle.inspection.specs.Rules.{limit_with, unless_marked, first_failed}
use Rattle.inspection.specs.Records.{base_with, visited_on, mark_of, switched_on, judged, inspected, inspected_all}
use Rattle.accepted_log_rules.specs.Shows.{moment, async_in, longest_gap}
use Rattle.accepted_log_rules.specs.Witness.{Tight}

pub tight : Tight
unfolding running passing_times begun any_below frames_fit limit_with unless_marked first_failed base_with visited_on mark_of switched_on judged inspected inspected_all moment async_in longest_gap
tight =
    record {
      timely_log = record { reaches = record { judged = refl; accepted = refl; apart = refl; first = refl }; window = refl; synchronous = refl };
      earlier_log = record { reaches = record { judged = refl; accepted = refl; apart = refl; first = refl }; window = refl; synchronous = refl };
      framed_log = record { reaches = record { judged = refl; accepted = refl; apart = refl; first = refl }; window = refl; synchronous = refl };
      fddi_log = record { judged = refl; accepted = refl; apart = refl; first = refl };
    }
