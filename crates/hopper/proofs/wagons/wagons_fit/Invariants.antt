-- `wagons_fit` is right because its flag is the test over the wagons passed, and it passes all of the list.
use mathlib.Core.Path.{◌≡◌}
use Rattle.units.specs.Places.{all_below}
use Rattle.hopper.specs.Wagons.{wagon_fits_at}
use Rattle.hopper.proofs.wagons.wagons_fit.Given as goal

abbrev pub invariant-loop-i : goal.invariant-loop-i
invariant-loop-i l =
    l.all ≡ all_below l.i (wagon_fits_at l.list)
