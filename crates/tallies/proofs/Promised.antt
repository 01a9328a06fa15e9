-- The promises of this layer, proved.
use Rattle.std.proofs.Common.{ℕ, ◌<◌, List}
use Rattle.log_records.specs.declared.Entry.{Entry}
use Rattle.tallies.specs.Shown.{Known}
use Rattle.tallies.specs.Promised.{StationShown, Promised}
use Rattle.tallies.proofs.ColumnLaws.{visits_shown, through_shown, most_shown, synchronous_shown, asynchronous_shown}
use Rattle.tallies.proofs.LongestLaws.{longest_shown}
use Rattle.tallies.proofs.LapLaws.{lap_shown}

station_shown : (n : ℕ) (w : List ℕ) (es : List Entry) → Known es → (i : ℕ) → i < 128 → StationShown n w es i
station_shown n w es known i inside =
    record {
      visits = visits_shown i inside n w es known;
      through = through_shown i inside n w es known;
      most = most_shown i inside n w es known;
      synchronous = synchronous_shown i inside n w es known;
      asynchronous = asynchronous_shown i inside n w es known;
      longest = longest_shown n w i inside es known;
    }

pub promised : Promised
promised = record { stations = station_shown; laps = lap_shown }
