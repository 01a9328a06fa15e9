-- What the small functions need of the bytes.
use Rattle.std.specs.Prelude.{ℕ, ◌+◌, ◌*◌, ◌≤◌, ◌<◌, List, ◌≡◌, length}
use Rattle.fields.specs.Header.{further_count, further_place}
use Rattle.fields.specs.declared.Passed.{Passed}

-- the fields that have passed lie inside the bytes, the header's first and a station among them
pub record PassedFits (bs : List ℕ) (p : Passed) : Type 0 where
  pub header : p.from ≡ further_place bs further_count
  pub some : 1 ≤ p.stations
  pub few : p.stations ≤ 128
  pub fewer : p.allocations ≤ 128
  pub inside : p.from + 19 * p.stations + 7 * p.allocations ≤ length bs

-- a column of numbers that lies inside the bytes
pub record ColumnFits (bs : List ℕ) (from step n : ℕ) : Type 0 where
  pub few : n ≤ 128
  pub narrow : step ≤ 19
  pub inside : (i : ℕ) → i < n → from + step * i + 4 ≤ length bs
