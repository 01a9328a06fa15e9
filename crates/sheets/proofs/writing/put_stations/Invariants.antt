-- `put_stations` is right because each turn lays one more row behind the rows laid.
use Rattle.sheets.specs.Layout.{station_bytes}
use Rattle.sheets.proofs.WritingLaws.{RowsLaid}
use Rattle.sheets.proofs.writing.put_stations.Given as goal

abbrev pub invariant-loop-i : goal.invariant-loop-i
invariant-loop-i l =
    RowsLaid l.initial.out l.out l.from l.i (station_bytes l.t)
