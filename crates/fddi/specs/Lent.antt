-- A load whose arrays are lent one by one.
use Rattle.std.specs.Prelude.{ℕ, ◌+◌, min, Bool, List, leb}
use Rattle.units.specs.Places.{at, all_below}
use Rattle.fddi.specs.Rules.{least_time, others}
use Rattle.fddi.specs.declared.Load.{Load}

-- the load of N, TTRT, the grid, what no station may plan with, and what C and D hold
abbrev pub lent_load : ℕ → ℕ → ℕ → ℕ → List ℕ → List ℕ → Load
lent_load n ttrt grid lost c d = record { n = n; ttrt = ttrt; grid = grid; lost = lost; c = c; d = d }

-- the deadline rule at every station; the grid has no part in it
abbrev pub deadlines_in : ℕ → ℕ → ℕ → List ℕ → List ℕ → (ℕ → ℕ) → Bool
deadlines_in n ttrt lost c d s =
    all_below (min n 128) (λ i. leb (at c i) (least_time ttrt (at d i) (lost + others (min n 128) s i) (s i)))
