-- What is promised of the numbers of the stations and of the laps, for any records; `proofs/Promised.antt` proves it.
use Rattle.std.specs.Prelude.{◌≡◌, ℕ, ◌+◌, ◌*◌, ◌^◌, ◌<◌, ◌≤◌, List, ◌++◌, length}
use Rattle.units.specs.Places.{at}
use Rattle.log_records.specs.declared.Entry.{Entry}
use Rattle.tallies.specs.Laps.{wrapped, no_lap, lapped_all}
use Rattle.tallies.specs.Tallies.{visits_column, through_column, longest_column, most_column, synchronous_column, asynchronous_column, nothing_seen, seen_all}
use Rattle.tallies.specs.Shown.{Known, moment, visits_in, visits_of, through_of, most_of, synchronous_of, asynchronous_of, Longest}

-- the numbers of station i behind these records
pub record StationShown (n : ℕ) (w : List ℕ) (es : List Entry) (i : ℕ) : Type 0 where
  pub visits : at (seen_all n w nothing_seen es).numbers (visits_column + i) ≡ wrapped (visits_of i es)
  pub through : at (seen_all n w nothing_seen es).numbers (through_column + i) ≡ wrapped (through_of i 0 es)
  pub most : at (seen_all n w nothing_seen es).numbers (most_column + i) ≡ most_of i es
  pub synchronous : at (seen_all n w nothing_seen es).numbers (synchronous_column + i) ≡ wrapped (synchronous_of i es)
  pub asynchronous : at (seen_all n w nothing_seen es).numbers (asynchronous_column + i) ≡ wrapped (asynchronous_of i es)
  -- of fewer than 2 ^ 64 records that took less than 2 ^ 64 ticks
  pub longest : length es < 2 ^ 64 → moment w es < 2 ^ 64
      → Longest w i es (at (seen_all n w nothing_seen es).numbers (longest_column + i))

-- the lap behind q whole rotations and some visits more
pub record LapShown (n : ℕ) (w : List ℕ) (before during : List Entry) (q : ℕ) : Type 0 where
  pub records : (lapped_all n w no_lap (before ++ during)).records ≡ wrapped (length (before ++ during))
  pub visits : (lapped_all n w no_lap (before ++ during)).visits ≡ wrapped (visits_in (before ++ during))
  pub rotation : (lapped_all n w no_lap (before ++ during)).rotation ≡ wrapped q
  pub turn : (lapped_all n w no_lap (before ++ during)).turn ≡ visits_in during
  pub elapsed : (lapped_all n w no_lap (before ++ during)).elapsed ≡ wrapped (moment w during)

pub record Promised : Type 0 where
  -- every number of a station is that of the records
  pub stations : (n : ℕ) (w : List ℕ) (es : List Entry) → Known es → (i : ℕ) → i < 128 → StationShown n w es i
  -- the records are cut into rotations of n visits each
  pub laps : (n : ℕ) (w : List ℕ) (before during : List Entry) (q : ℕ) → 1 ≤ n → visits_in before ≡ q * n → visits_in during < n → LapShown n w before during q
