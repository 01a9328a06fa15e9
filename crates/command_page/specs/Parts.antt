-- All parts in their order: 20 of the finding and 9 of the plan, one for each station, 8 behind them, three for each station, and two behind these. At many of these places there is none. Where the records were not judged, nothing stands behind the meaning.
use Rattle.std.specs.Prelude.{ℕ, ◌+◌, ◌-◌, ◌*◌, ◌/◌, ◌%◌, min, cond, Option, None, Some, nat_lt}
use Rattle.units.specs.Numbers.{most_stations}
use Rattle.text.specs.declared.phrases.Phrase.{Phrase}
use Rattle.command_page.specs.declared.Form.{Form}
use Rattle.command_page.specs.declared.Account.{Account}
use Rattle.command_page.specs.Named.{is_judged, finding_part}
use Rattle.command_page.specs.Plan.{plan_part, station_part, promise_part}
use Rattle.command_page.specs.Did.{did_begin, did_part, last_part}

abbrev pub finding_count : ℕ
finding_count = 20

abbrev pub plan_count : ℕ
plan_count = 9

abbrev pub first_count : ℕ
first_count = 29

abbrev pub middle_count : ℕ
middle_count = 8

abbrev pub did_count : ℕ
did_count = 3

abbrev pub last_count : ℕ
last_count = 2

-- the stations that have a place
abbrev pub stations_of : Account → ℕ
stations_of x = min x.set.n most_stations

abbrev pub part_count : Account → ℕ
part_count x = first_count + stations_of x + middle_count + did_count * stations_of x + last_count

-- behind the plan's stations: what is promised, and over which records what follows is
unfoldable pub middle_part : Account → ℕ → Option (Phrase Form)
middle_part x k = cond (nat_lt k 7) (promise_part x k) (Some (did_begin x.rule x.records x.named))

unfoldable pub did_or_last : Account → ℕ → Option (Phrase Form)
did_or_last x k =
    cond (nat_lt (k / did_count) (stations_of x)) (Some (did_part x (k / did_count) (k % did_count)))
    (last_part x (k - did_count * stations_of x))

unfoldable pub behind_stations : Account → ℕ → Option (Phrase Form)
behind_stations x k = cond (nat_lt k middle_count) (middle_part x k) (did_or_last x (k - middle_count))

-- part k behind the plan as a whole
unfoldable pub part_behind : Account → ℕ → Option (Phrase Form)
part_behind x k =
    cond (nat_lt k (stations_of x)) (Some (station_part x.set x.alloc k)) (behind_stations x (k - stations_of x))

-- part k behind the finding: the plan as a whole, and what stands behind it
unfoldable pub judged_part : Account → ℕ → Option (Phrase Form)
judged_part x k = cond (nat_lt k plan_count) (Some (plan_part x k)) (part_behind x (k - plan_count))

unfoldable pub part_at : Account → ℕ → Option (Phrase Form)
part_at x k =
    cond (nat_lt k finding_count) (finding_part x k)
    (cond (is_judged x.outcome) (judged_part x (k - finding_count)) None)
