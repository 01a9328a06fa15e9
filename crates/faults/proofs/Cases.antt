-- The cases hold because the definitions compute to what the table says.
use mathlib.Core.Path.{refl}
use Rattle.units.specs.Places.{sum_below}
use Rattle.sets.specs.Header.{head_number}
use Rattle.fddi.specs.Rules.{time_with}
use Rattle.plans.specs.Rules.{time_at}
use Rattle.plans.specs.Planned.{smallest_with}
use Rattle.differences.specs.Views.{nth_of, header_of}
use Rattle.faults.specs.Holdings.{excess_of, holding_at}
use Rattle.faults.specs.Ranges.{header_high}
use Rattle.faults.specs.Cases.{Cases}

pub cases_hold : Cases
unfolding holding_at excess_of time_at time_with smallest_with sum_below header_high header_of head_number nth_of
cases_hold =
    record {
      larger = refl;
      short = refl;
      off_grid = refl;
      none = refl;
      fddi_kept = refl;
      fddi_short = refl;
      over = refl;
      just_fits = refl;
      mode = refl;
      grid = refl;
      gap = refl;
      deadline = refl;
      no_gap = refl;
      s = refl;
    }
