-- The worked run holds because opening, handing in and visits compute to the table's numbers, through every test of 8 to 12 and 15.
use mathlib.Core.Path.{refl}
use Rattle.units.specs.Places.{sum_below, all_below, fill, raise}
use Rattle.units.specs.Judging.{or_else, all_hold}
use Rattle.sets.specs.Rules.{head_in_range, station_in_range}
use Rattle.sets.specs.Judged.{judged_then}
use Rattle.plans.specs.Rules.{time_at, spare_time}
use Rattle.plans.specs.Planned.{smallest_with, judged_plan, answered}
use Rattle.rings.specs.Frames.{frames_from}
use Rattle.rings.specs.Opening.{opened_ring, opened_with, opening_number}
use Rattle.rings.specs.Sound.{is_sound}
use Rattle.rings.specs.State.{following}
use Rattle.rings.specs.Timers.{timers_offer, limit, lead, timely_after, timers_after, silent_timely, silent_timers, timely_sound, timers_sound}
use Rattle.rings.specs.Steps.{most_sent, sync_sent, moved, record_of, visited_with}
use Rattle.rings.specs.HandingIn.{arrival_allowed, holding, taken_with}
use Rattle.stars.specs.Run.{WorkedRun}

pub worked_run : WorkedRun
unfolding frames_from sum_below all_below fill raise or_else all_hold head_in_range station_in_range judged_then time_at spare_time smallest_with judged_plan answered opened_ring opening_number opened_with is_sound
    most_sent sync_sent following timers_offer limit lead timely_after timers_after silent_timely silent_timers timely_sound timers_sound moved record_of visited_with arrival_allowed holding taken_with
worked_run =
    record {
      plan = refl;
      spare = refl;
      opened = refl;
      table = (refl, (refl, (refl, (refl, (refl, (refl, (refl, (refl, (refl, (refl, (refl, (refl, (refl, (refl, tt))))))))))))));
    }
