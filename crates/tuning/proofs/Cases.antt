-- The cases hold because the definitions compute to what the table says.
use mathlib.Core.Path.{refl}
use Rattle.units.specs.Judging.{or_else}
use Rattle.units.specs.Places.{sum_below, all_below, fill}
use Rattle.sets.specs.Judged.{judged_then}
use Rattle.sets.specs.Rules.{head_in_range, station_in_range}
use Rattle.plans.specs.Rules.{time_at, spare_time}
use Rattle.plans.specs.Planned.{smallest_with, answered}
use Rattle.tuning.specs.Tunings.{counted, tried_at, tuned_over}
use Rattle.tuning.specs.Cases.{Cases}

pub cases_hold : Cases
unfolding counted tried_at tuned_over smallest_with sum_below all_below fill judged_then head_in_range station_in_range or_else answered time_at spare_time
cases_hold = record { around = refl; falls = refl; rises = refl; none = refl }
