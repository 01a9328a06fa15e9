-- What some records show of a station, in the records alone: nothing here is kept or computed on the way.
use Rattle.std.specs.Prelude.{◌≡◌, ℕ, ◌+◌, ◌<◌, ◌≤◌, max, cond, ◌⊎◌, List, [], ◌∷◌, ◌++◌, ◌==◌}
use Rattle.log_records.specs.declared.VisitEntry.{VisitEntry}
use Rattle.log_records.specs.declared.Entry.{Entry}
use Rattle.log_records.specs.declared.Entry.TheVariants.{Visit, Mark}
use Rattle.tallies.specs.Laps.{took_by}
use Rattle.tallies.specs.Tallies.{marked_by}

-- each record is of one of 128 stations
abbrev pub station_of : Entry → ℕ
station_of (Visit v) = v.station
station_of (Mark m) = m.station

unfoldable pub Known : List Entry → Type 0
Known [] = Unit {0}
Known (e ∷ es) = (station_of e < 128) × Known es

-- the moment behind these records: the sum of what their visits took; marks take nothing
unfoldable pub moment : List ℕ → List Entry → ℕ
moment w [] = 0
moment w (Visit v ∷ es) = took_by w v + moment w es
moment w (Mark m ∷ es) = moment w es

-- how many of them are visits
unfoldable pub visits_in : List Entry → ℕ
visits_in [] = 0
visits_in (Visit v ∷ es) = 1 + visits_in es
visits_in (Mark m ∷ es) = visits_in es

-- x where the visit is of station i, else 0
unfoldable pub of_station : ℕ → VisitEntry → ℕ → ℕ
of_station i v x = cond (v.station == i) x 0

-- how many are visits of station i
unfoldable pub visits_of : ℕ → List Entry → ℕ
visits_of i [] = 0
visits_of i (Visit v ∷ es) = of_station i v 1 + visits_of i es
visits_of i (Mark m ∷ es) = visits_of i es

-- how many are visits of station i while it is switched through, where it had this mark before them: 1 is switched through
unfoldable pub through_of : ℕ → ℕ → List Entry → ℕ
through_of i mark [] = 0
through_of i mark (Visit v ∷ es) = of_station i v mark + through_of i mark es
through_of i mark (Mark m ∷ es) = through_of i (cond (m.station == i) (marked_by mark m.mark) mark) es

-- the most that station i sent synchronously in a visit
unfoldable pub most_of : ℕ → List Entry → ℕ
most_of i [] = 0
most_of i (Visit v ∷ es) = max (of_station i v v.synchronous) (most_of i es)
most_of i (Mark m ∷ es) = most_of i es

-- what it sent synchronously in all
unfoldable pub synchronous_of : ℕ → List Entry → ℕ
synchronous_of i [] = 0
synchronous_of i (Visit v ∷ es) = of_station i v v.synchronous + synchronous_of i es
synchronous_of i (Mark m ∷ es) = synchronous_of i es

-- and asynchronously
unfoldable pub asynchronous_of : ℕ → List Entry → ℕ
asynchronous_of i [] = 0
asynchronous_of i (Visit v ∷ es) = of_station i v v.asynchronous + asynchronous_of i es
asynchronous_of i (Mark m ∷ es) = asynchronous_of i es

-- ---- the time between two visits of a station

-- visit v of station i stands behind visit u of the same one, with these records between them, none of which is a visit of it
pub record Next (i : ℕ) (es before : List Entry) (u : VisitEntry) (between : List Entry) (v : VisitEntry) : Type 0 where
  pub behind : List Entry
  pub place : es ≡ before ++ Visit u ∷ between ++ Visit v ∷ behind
  pub first : u.station ≡ i
  pub second : v.station ≡ i
  pub none_between : visits_of i between ≡ 0

-- from the beginning of u to that of the next one
abbrev pub apart : List ℕ → VisitEntry → List Entry → ℕ
apart w u between = took_by w u + moment w between

-- this time was between two of its visits
pub record Happened (w : List ℕ) (i : ℕ) (es : List Entry) (x : ℕ) : Type 0 where
  pub before : List Entry
  pub u : VisitEntry
  pub between : List Entry
  pub v : VisitEntry
  pub next : Next i es before u between v
  pub is : x ≡ apart w u between

-- it is the longest time between two visits of station i: no two are further apart, and two are, or it has no two visits and it is 0
pub record Longest (w : List ℕ) (i : ℕ) (es : List Entry) (x : ℕ) : Type 0 where
  pub none_longer : (before between : List Entry) (u v : VisitEntry) → Next i es before u between v → apart w u between ≤ x
  pub reached : Happened w i es x ⊎ (x ≡ 0)
