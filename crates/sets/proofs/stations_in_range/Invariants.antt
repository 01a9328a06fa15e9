-- `stations_in_range` is right because its flag is the test over the stations passed, and it passes the first n.
use mathlib.Core.Path.{◌≡◌}
use Rattle.units.specs.Places.{all_below}
use Rattle.sets.specs.Lent.{in_range_in}
use Rattle.sets.proofs.stations_in_range.Given as goal

abbrev pub invariant-loop-i : goal.invariant-loop-i
invariant-loop-i l =
    l.all ≡ all_below l.i (in_range_in l.w l.c l.d l.p)
