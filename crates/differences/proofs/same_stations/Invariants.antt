-- `same_stations` is right because its flag says of the stations passed that nothing differs.
use mathlib.Core.Path.{◌≡◌}
use Rattle.differences.specs.Views.{number_of}
use Rattle.differences.specs.Differences.{gathered, station_changed, is_none}
use Rattle.differences.proofs.same_stations.Given as goal

abbrev pub invariant-loop-i : goal.invariant-loop-i
invariant-loop-i l =
    l.all ≡ is_none (gathered l.i (station_changed (number_of l.t l.a) (number_of l.u l.b)))
