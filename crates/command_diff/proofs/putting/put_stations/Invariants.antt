-- `put_stations` is right because the lines of the stations before this one are put.
use Prim.Native.Nat.{◌*◌}
use Rattle.text.specs.Pages.{Puts}
use Rattle.differences.specs.Views.{number_of}
use Rattle.differences.specs.Differences.{gathered, station_changed}
use Rattle.command_diff.specs.DiffText.{lines_of}
use Rattle.command_diff.proofs.putting.put_stations.Given as goal

abbrev pub invariant-loop-i : goal.invariant-loop-i
invariant-loop-i l = Puts (415 * l.i) l.initial.page (lines_of (gathered l.i (station_changed (number_of l.t l.a) (number_of l.u l.b)))) l.page
