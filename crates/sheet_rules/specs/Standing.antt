-- What may stand where in a sheet, in 01's words: the sentence that the table `is_allowed` decides.
use Rattle.std.specs.Prelude.{ℕ, ◌≤◌, ◌<◌, ◌≡◌, true, cond}
use Rattle.fields.specs.declared.Passed.{Passed}

-- the tag with this length may stand behind the fields that have passed
pub data MayStand (p : Passed) (tag size : ℕ) : Type 0 where
  -- TTRT, tag 1 and length 4: at the start, and once
  a_head : tag ≡ 1 → size ≡ 4 → p.head ≡ 0 → MayStand p tag size
  -- the mode, tag 4 and length 1: behind TTRT and before the first station, and once
  a_mode : tag ≡ 4 → size ≡ 1 → 1 ≤ p.head → p.head < 4 → p.stations ≡ 0 → MayStand p tag size
  -- F, tag 5 and length 4: behind TTRT and the mode, if that is there, and before the first station, and once
  a_frame : tag ≡ 5 → size ≡ 4 → 1 ≤ p.head → p.head < 5 → p.stations ≡ 0 → MayStand p tag size
  -- g, tag 6 and length 4: behind TTRT, the mode and F, if these are there, and before the first station, and once
  a_grid : tag ≡ 6 → size ≡ 4 → 1 ≤ p.head → p.head < 6 → p.stations ≡ 0 → MayStand p tag size
  -- a station, tag 2 and length 16: behind the header, at most the 128th, and none behind an allocation
  a_station : tag ≡ 2 → size ≡ 16 → 1 ≤ p.head → p.stations < 128 → p.allocations ≡ 0 → MayStand p tag size
  -- an allocation, tag 3 and length 4: in a plan, behind the stations, one for each
  an_allocation : tag ≡ 3 → size ≡ 4 → 1 ≤ p.head → p.plan ≡ true → p.allocations < p.stations → MayStand p tag size
  -- the end, tag 255 and length 0: behind at least one station, and in a plan behind an allocation for each
  an_end : tag ≡ 255
      → size ≡ 0 → 1 ≤ p.head → 1 ≤ p.stations → p.allocations ≡ cond p.plan p.stations 0 → MayStand p tag size
