-- What the smallest S of a station rests on: m, α, S itself, X there, and X at the next smaller S on the grid, which is below C.
use Rattle.std.specs.Prelude.{ℕ, ◌-◌, ◌≤◌, ◌<◌, ◌≡◌, cond, ◌↔◌, leb}
use Rattle.units.specs.Grid.{MultipleOf}
use Rattle.units.specs.Places.{at}
use Rattle.units.specs.Vectors.{whole_rotations}
use Rattle.sets.specs.declared.Set.{Set}
use Rattle.plans.specs.Rules.{alpha, least_time, IsSmallest}
use Rattle.plans.specs.Planned.{smallest_for, planned}
use Rattle.reasons.specs.declared.Grounds.{Grounds}

-- the largest number of 32 bits; no S of a set is above it
abbrev pub most_number : ℕ
most_number = 4_294_967_295

abbrev pub no_grounds : Grounds
no_grounds = record { whole = 0; alpha = 0; smallest = 0; time = 0; below = 0 }

-- those of TTRT, D and the smallest S
abbrev pub grounds_for : ℕ → ℕ → ℕ → ℕ → Grounds
grounds_for grid ttrt d s =
    record {
      whole = whole_rotations ttrt d;
      alpha = alpha ttrt d;
      smallest = s;
      time = least_time ttrt d s;
      below = least_time ttrt d (s - grid);
    }

-- zeros where S has more than 32 bits
unfoldable pub grounds_of : ℕ → ℕ → ℕ → ℕ → Grounds
grounds_of grid ttrt c d =
    cond (leb (smallest_for grid ttrt c d) most_number) (grounds_for grid ttrt d (smallest_for grid ttrt c d)) no_grounds

-- z is the largest multiple of the grid below s
pub record NextSmaller (grid s z : ℕ) : Type 0 where
  pub multiple : MultipleOf grid z
  pub smaller : z < s
  pub next : (other : ℕ) → MultipleOf grid other → other < s → other ≤ z

-- those of station i
abbrev pub grounds_at : Set → ℕ → Grounds
grounds_at t i = grounds_of t.head.grid t.head.ttrt (at t.c i) (at t.d i)

-- what r shows of station i
pub record Shown (t : Set) (i : ℕ) (r : Grounds) : Type 0 where
  -- m and α are 01's
  pub whole : r.whole ≡ whole_rotations t.head.ttrt (at t.d i)
  pub alpha : r.alpha ≡ alpha t.head.ttrt (at t.d i)
  -- S is the smallest multiple of the grid that meets the deadline rule
  pub smallest : IsSmallest t.head.grid t.head.ttrt (at t.c i) (at t.d i) r.smallest
  -- where there is a plan, it is the plan's
  pub plan : (planned t).number ≡ 0 → at (planned t).alloc.s i ≡ r.smallest
  -- X at S is at least C
  pub time : r.time ≡ least_time t.head.ttrt (at t.d i) r.smallest
  pub enough : at t.c i ≤ r.time
  -- X at the next smaller S on the grid is below C
  pub below : r.below ≡ least_time t.head.ttrt (at t.d i) (r.smallest - t.head.grid)
  pub not_enough : 0 < r.smallest → r.below < at t.c i
  -- S − g is that next smaller one
  pub next : 0 < r.smallest → NextSmaller t.head.grid r.smallest (r.smallest - t.head.grid)
  -- there is none exactly where C is 0
  pub none : (r.smallest ≡ 0) ↔ (at t.c i ≡ 0)
