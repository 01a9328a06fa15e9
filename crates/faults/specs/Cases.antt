-- Cases that a person can check by hand.
use Rattle.std.specs.Prelude.{ℕ, ◌-◌, ◌≡◌, true, false, List, [], ◌∷◌, ◌++◌, length, replicate}
use Rattle.units.specs.Numbers.{timely, fddi}
use Rattle.sets.specs.declared.Head.{Head}
use Rattle.sets.specs.declared.Set.{Set}
use Rattle.plans.specs.declared.Alloc.{Alloc}
use Rattle.faults.specs.Holdings.{holding_at, token_of}
use Rattle.faults.specs.Ranges.{header_range, station_range}

-- 128 places: these, then zeros
abbrev places : List ℕ → List ℕ
places xs = xs ++ replicate (128 - length xs) 0

-- the header with TTRT 100 and F 1: the mode and the grid
abbrev head_of : ℕ → ℕ → Head
head_of mode grid = record { ttrt = 100; mode = mode; frame = 1; grid = grid }

-- two stations of C 20, τ 2: the mode, the grid, and both stations' D and P
abbrev pub two : ℕ → ℕ → ℕ → Set
two mode grid d =
    record {
      head = head_of mode grid;
      n = 2;
      w = places (2 ∷ 0 ∷ []);
      c = places (20 ∷ 20 ∷ []);
      d = places (d ∷ d ∷ []);
      p = places (d ∷ d ∷ []);
    }

abbrev pub given : ℕ → ℕ → Alloc
given s₀ s₁ = record { s = places (s₀ ∷ s₁ ∷ []) }

pub record Cases : Type 0 where
  -- D 100 and C 20 need an S of 20: 25 is 5 more, 19 is short
  pub larger : holding_at (two timely 1 100) (given 25 19) 0
      ≡ record { time = 25; short = false; off_grid = false; excess = 5 }
  pub short : holding_at (two timely 1 100) (given 25 19) 1
      ≡ record { time = 19; short = true; off_grid = false; excess = 0 }
  -- on a grid of 4 the smallest is 20 too, and 25 is off it
  pub off_grid : holding_at (two timely 4 100) (given 25 20) 0
      ≡ record { time = 25; short = false; off_grid = true; excess = 5 }
  -- there is no third station
  pub none : holding_at (two timely 1 100) (given 25 19) 2
      ≡ record { time = 0; short = false; off_grid = false; excess = 0 }
  -- FDDI, D 150: of the rest of 50 τ 2 and the other's 20 leave 28, so 20 of S 20; with 40 at the other it is 8
  pub fddi_kept : holding_at (two fddi 1 150) (given 20 20) 0
      ≡ record { time = 20; short = false; off_grid = false; excess = 0 }
  pub fddi_short : holding_at (two fddi 1 150) (given 20 40) 0
      ≡ record { time = 8; short = true; off_grid = false; excess = 0 }
  -- 60 + 40 is 2 more than the 98 that there are
  pub over : token_of (two timely 1 100) (given 60 40) ≡ record { sum = 100; available = 98; over = 2 }
  pub just_fits : token_of (two timely 1 100) (given 58 40) ≡ record { sum = 98; available = 98; over = 0 }
  -- a mode of 4 is none, and a grid of 1,000 is the largest
  pub mode : header_range (head_of 4 1_000) 4 ≡ record { value = 4; low = 1; high = 3; out = true }
  pub grid : header_range (head_of 4 1_000) 6 ≡ record { value = 1_000; low = 1; high = 1_000; out = false }
  -- P is at least D, whatever D is: 99 is below 100, and 0 is not below 0, which is itself out of range
  pub gap : station_range 0 20 100 99 0 3 ≡ record { value = 99; low = 100; high = 100_000_000; out = true }
  pub deadline : station_range 0 20 0 0 0 2 ≡ record { value = 0; low = 1; high = 100_000_000; out = true }
  pub no_gap : station_range 0 20 0 0 0 3 ≡ record { value = 0; low = 0; high = 100_000_000; out = false }
  -- S has the range of TTRT, and 0
  pub s : station_range 0 20 100 100 1_000_001 4 ≡ record { value = 1_000_001; low = 0; high = 1_000_000; out = true }
