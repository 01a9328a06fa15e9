-- `put_stations` is right because after i turns the lines of the first i stations are put.
use Prim.Native.Nat.{◌*◌}
use Rattle.fields.specs.Rows.{rows}
use Rattle.text.specs.Pages.{Puts}
use Rattle.sheet_text_rules.specs.ShowText.{station_line}
use Rattle.command_show.proofs.showing.put_stations.Given as goal

abbrev pub invariant-loop-i : goal.invariant-loop-i
invariant-loop-i l =
    Puts (126 * l.i) l.initial.page (rows l.i (station_line l.plan l.t l.a)) l.page
