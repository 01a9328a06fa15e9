-- All phrases in their order: ten before the stations', five at each station, and eight behind them. At many of these places there is none.
use Rattle.std.specs.Prelude.{ℕ, ◌+◌, ◌-◌, ◌*◌, ◌/◌, ◌%◌, min, cond, Option, ltb}
use Rattle.units.specs.Numbers.{most_stations}
use Rattle.text.specs.declared.phrases.Phrase.{Phrase}
use Rattle.command_explain.specs.declared.Form.{Form}
use Rattle.command_explain.specs.declared.Explained.{Explained}
use Rattle.command_explain.specs.First.{first_phrase}
use Rattle.command_explain.specs.Stations.{station_phrase}
use Rattle.command_explain.specs.Ends.{last_phrase}

abbrev pub first_count : ℕ
first_count = 10

abbrev pub station_count : ℕ
station_count = 5

abbrev pub last_count : ℕ
last_count = 8

-- the stations that have a place
abbrev pub stations_of : Explained → ℕ
stations_of e = min e.set.n most_stations

abbrev pub phrase_count : Explained → ℕ
phrase_count e = first_count + station_count * stations_of e + last_count

-- phrase k behind the first ten
unfoldable pub phrase_behind : Explained → ℕ → Option (Phrase Form)
phrase_behind e k =
    cond (ltb (k / station_count) (stations_of e)) (station_phrase e (k / station_count) (k % station_count))
    (last_phrase e (k - station_count * stations_of e))

unfoldable pub phrase_at : Explained → ℕ → Option (Phrase Form)
phrase_at e k = cond (ltb k first_count) (first_phrase e k) (phrase_behind e (k - first_count))
