-- `switch_line` is right because it goes by the line's word, as the definition does.
use mathlib.Core.Path.{◌≡◌, sym, ap, ◌∙◌}
use mathlib.Core.Bool.{false}
use Rattle.rings.specs.Marking.{marked, unmarked}
use Rattle.command_run.specs.Calls.{is_mark}
use Rattle.command_run.proofs.RunLaws.{switched_mark, switched_unmark, switched_unread}
use Rattle.command_run.proofs.switch_line.Goals as goal

pub returns-then-names_station : goal.returns-then-names_station
returns-then-names_station c =
    rw c.station_in-station.ensures
    (switched_mark c.args.ring c.args.s _ (sym c.names_station.ensures ∙ c.if-names_station.true)
    (c.mark-marked.ensures ∙ ap (marked c.args.ring) c.station_in-station.ensures))

pub returns-then-names_station-2 : goal.returns-then-names_station-2
returns-then-names_station-2 c =
    let no_mark : is_mark c.args.s ≡ false = sym c.names_station.ensures ∙ c.if-names_station.false in
    rw c.station_in-station.ensures
    (switched_unmark c.args.ring c.args.s _ no_mark (sym c.names_station-2.ensures ∙ c.if-names_station-2.true)
    (c.unmark-taken.ensures ∙ ap (unmarked c.args.ring) c.station_in-station.ensures))

pub returns : goal.returns
returns c =
    let no_mark : is_mark c.args.s ≡ false = sym c.names_station.ensures ∙ c.if-names_station.false in
    switched_unread _ _ no_mark (sym c.names_station-2.ensures ∙ c.if-names_station-2.false)
