-- The cases hold because the definitions compute to what the table says.
use mathlib.Core.Path.{refl}
use Rattle.units.specs.Judging.{or_else}
use Rattle.units.specs.Places.{sum_below, all_below, fill}
use Rattle.sets.specs.Judged.{judged_then}
use Rattle.sets.specs.Rules.{head_in_range, station_in_range}
use Rattle.plans.specs.Rules.{time_at}
use Rattle.plans.specs.Planned.{smallest_with, answered}
use Rattle.reasons.specs.Shortages.{shortage_of}
use Rattle.reasons.specs.Grounds.{grounds_of}
use Rattle.reasons.specs.Rooms.{rooms_of}
use Rattle.reasons.specs.Cases.{Cases}

pub cases_hold : Cases
unfolding shortage_of grounds_of rooms_of smallest_with sum_below all_below fill judged_then head_in_range station_in_range or_else answered time_at
cases_hold =
    record {
      refused = refl;
      just_fits = refl;
      stepped = refl;
      grid = refl;
      no_grid = refl;
      framed = refl;
      enough_alone = refl;
      too_much_alone = refl;
      both_parts = refl;
      last_part_lem = refl;
      on_a_grid = refl;
      nothing = refl;
      room = refl;
      room_framed = refl;
      room_stepped = refl;
      no_room = refl;
    }
