-- Cases that a person can check by hand.
use Rattle.std.specs.Prelude.{ℕ, ◌-◌, ◌≡◌, true, false, List, [], ◌∷◌, ◌++◌, length, replicate}
use Rattle.units.specs.Numbers.{timely}
use Rattle.units.specs.Places.{at}
use Rattle.sets.specs.declared.Set.{Set}
use Rattle.reasons.specs.Shortages.{shortage_of, too_much, grid_is_cause}
use Rattle.reasons.specs.Grounds.{grounds_of}
use Rattle.reasons.specs.Rooms.{rooms_of}

-- 128 places: these, then zeros
abbrev places : List ℕ → List ℕ
places xs = xs ++ replicate (128 - length xs) 0

-- at TTRT 100: F, the grid, and station by station w, C and D, with P as D
abbrev set_of : ℕ → ℕ → List ℕ → List ℕ → List ℕ → Set
set_of frame grid w c d =
    record {
      head = record { ttrt = 100; mode = timely; frame = frame; grid = grid };
      n = length w;
      w = places w;
      c = places c;
      d = places d;
      p = places d;
    }

-- two stations of D 60, τ 2: the grid, and both stations' C
abbrev pub two : ℕ → ℕ → Set
two grid c = set_of 1 grid (2 ∷ 0 ∷ []) (c ∷ c ∷ []) (60 ∷ 60 ∷ [])

-- the worked run's four stations, τ 2, C 20, D 100: F and the grid
abbrev pub four : ℕ → ℕ → Set
four frame grid = set_of frame grid (2 ∷ 0 ∷ 0 ∷ 0 ∷ []) (20 ∷ 20 ∷ 20 ∷ 20 ∷ []) (100 ∷ 100 ∷ 100 ∷ 100 ∷ [])

pub record Cases : Type 0 where
  -- D 60 and C 10: S is 50 at both stations, and 100 + 2 is 2 more than TTRT
  pub refused : shortage_of (two 1 10) ≡ record { sum = 100; needed = 102; available = 98; missing = 2 }
  -- C 9: S is 49, and 98 + 2 is TTRT
  pub just_fits : shortage_of (two 1 9) ≡ record { sum = 98; needed = 100; available = 98; missing = 0 }
  -- on a grid of 10 it is 50 again, and the grid is the cause
  pub stepped : shortage_of (two 10 9) ≡ record { sum = 100; needed = 102; available = 98; missing = 2 }
  pub grid : grid_is_cause (two 10 9) ≡ true
  pub no_grid : grid_is_cause (two 1 10) ≡ false
  -- F 30 takes 29 ticks more: of 80 + 2 + 29 11 are missing
  pub framed : shortage_of (four 30 1) ≡ record { sum = 80; needed = 111; available = 69; missing = 11 }
  -- 98 is not above what there is, 99 is
  pub enough_alone : too_much 98 98 ≡ false
  pub too_much_alone : too_much 98 99 ≡ true
  -- D 250, C 130: m is 2, α 50, S 60; 2·60 + 10 is 130, and 2·59 + 9 is 127
  pub both_parts : grounds_of 1 100 130 250 ≡ record { whole = 2; alpha = 50; smallest = 60; time = 130; below = 127 }
  -- D 60, C 10: m is 0, α 40, S 50; on a grid of 20 it is 60, and 40 gives 0
  pub last_part_lem : grounds_of 1 100 10 60 ≡ record { whole = 0; alpha = 40; smallest = 50; time = 10; below = 9 }
  pub on_a_grid : grounds_of 20 100 10 60 ≡ record { whole = 0; alpha = 40; smallest = 60; time = 20; below = 0 }
  -- C 0 needs nothing
  pub nothing : grounds_of 1 100 0 60 ≡ record { whole = 0; alpha = 40; smallest = 0; time = 0; below = 0 }
  -- of the worked run 18 ticks are spare: each station may have C 38; with F 10 9 are, and C 29; on a grid of 4 16 of the 18, and C 36
  pub room : at (rooms_of (four 1 1)).c 3 ≡ 38
  pub room_framed : at (rooms_of (four 10 1)).c 0 ≡ 29
  pub room_stepped : at (rooms_of (four 1 4)).c 0 ≡ 36
  -- where the S just fit, each C is the largest
  pub no_room : at (rooms_of (two 1 9)).c 1 ≡ 9
