-- The inspections are computed.
use mathlib.Core.Path.{refl}
use Rattle.promises.proofs.Computed.{running}
use Rattle.inspection.specs.Opening.{passing_times, begun}
use Rattle.inspection.specs.Frames.{any_below, frames_fit}
use Rattle.inspection.specs.Rules.{limit_with, unless_marked, first_failed}
use Rattle.inspection.specs.Records.{base_with, visited_on, mark_of, switched_on, judged, inspected, inspected_all}
use Rattle.inspection_rules.specs.Witness.{LateLog, MarkedLog}

pub late_log_lem : LateLog
unfolding running passing_times begun any_below frames_fit limit_with unless_marked first_failed base_with visited_on mark_of switched_on judged inspected inspected_all
late_log_lem =
    record {
      fddi_plan = refl;
      timely_plan = refl;
      accepted = refl;
      counted = refl;
      broken = refl;
      none = refl;
    }

pub marked_log : MarkedLog
unfolding running passing_times begun any_below frames_fit limit_with unless_marked first_failed base_with visited_on mark_of switched_on judged inspected inspected_all
marked_log =
    record {
      silent = (refl, refl);
      offered = (refl, refl);
      sends = (refl, refl);
      sends_frames = (refl, refl);
      again_in = refl;
      two = refl;
      beyond = refl;
      timely_run = refl;
      fddi_run = refl;
      earlier_run = refl;
    }
