-- The inspections are computed.
use mathlib.Core.Path.{refl}
use Rattle.promises.proofs.Computed.{running}
use Rattle.inspection.specs.Opening.{passing_times, begun}
use Rattle.inspection.specs.Frames.{any_below, frames_fit}
use Rattle.inspection.specs.Rules.{limit_with, unless_marked, first_failed}
use Rattle.inspection.specs.Records.{base_with, visited_on, mark_of, switched_on, judged, inspected, inspected_all}
use Rattle.inspection_rules.specs.Editions.{Editions}

pub editions : Editions
unfolding running passing_times begun any_below frames_fit limit_with unless_marked first_failed base_with visited_on mark_of switched_on judged inspected inspected_all
editions =
    record {
      earlier_by_timely = (refl, refl);
      timely_by_earlier = (refl, refl);
      own_earlier = (refl, refl);
      own_timely = (refl, refl);
    }
