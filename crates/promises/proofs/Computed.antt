-- What a run is computed with. Each name stands for a list of definitions: who says `unfolding running` unfolds all of them.
use Rattle.units.specs.Places.{sum_below, all_below, fill, raise}
use Rattle.units.specs.Judging.{or_else, all_hold}
use Rattle.sets.specs.Rules.{head_in_range, station_in_range}
use Rattle.sets.specs.Judged.{judged_then}
use Rattle.fddi.specs.Rules.{time_with}
use Rattle.plans.specs.Rules.{time_at, spare_time}
use Rattle.plans.specs.Planned.{smallest_with, answered, judged_plan}
use Rattle.fddi_timer_rules.specs.Timers.{later, started_at, visited, offered}
use Rattle.rings.specs.Opening.{opened_ring, opened_with, opening_number}
use Rattle.rings.specs.Sound.{is_sound}
use Rattle.rings.specs.State.{following}
use Rattle.rings.specs.Timers.{lead, timers_offer, limit, token_came, time_passed, timers_after, timely_after, silent_timers, silent_timely, silent_fddi, timers_sound, timely_sound, fddi_sound}
use Rattle.rings.specs.Frames.{frames_from}
use Rattle.rings.specs.Steps.{most_sent, sync_sent, moved, record_of, visited_with}
use Rattle.rings.specs.HandingIn.{arrival_allowed, holding, taken_with}
use Rattle.rings.specs.Marking.{switched_through, marked_ring, withdrawal, marked_with, switched_in, unmarked_with}
use Rattle.promises.specs.Run.{noted, after, run}

-- a plan and its judgement
unfoldable pub planning : Unit {0}
unfolding sum_below all_below fill or_else all_hold head_in_range station_in_range judged_then time_at spare_time time_with smallest_with answered judged_plan
planning = tt

-- opening's number, the opened ring, and whether a ring is sound
unfoldable pub opening : Unit {0}
unfolding silent_timers silent_timely silent_fddi started_at opened_ring opened_with opening_number timers_sound timely_sound fddi_sound is_sound
opening = tt

-- a visit
unfoldable pub visiting : Unit {0}
unfolding raise later visited offered frames_from lead timers_offer limit token_came time_passed timers_after timely_after most_sent sync_sent following moved record_of visited_with
visiting = tt

-- a handing in
unfoldable pub handing_in : Unit {0}
unfolding arrival_allowed holding taken_with
handing_in = tt

-- a mark set and taken off
unfoldable pub marking : Unit {0}
unfolding switched_through marked_ring withdrawal marked_with switched_in unmarked_with
marking = tt

-- the calls of a run on the ring that a plan opens
unfoldable pub running : Unit {0}
unfolding planning opening visiting handing_in marking noted after run
running = tt
