-- What the code below the tests goes by: a TTRT is tried by plain numbers.
use Rattle.std.specs.Prelude.{ℕ, zero, suc, ◌+◌, ◌-◌, ◌^◌, ◌≤◌, Bool, cond, ◌&&◌, List, leb}
use Rattle.units.specs.Numbers.{most_ttrt}
use Rattle.units.specs.Places.{at, sum_below}
use Rattle.units.specs.Judging.{between}
use Rattle.plans.specs.Planned.{smallest_for}
use Rattle.tuning.specs.Tunings.{counted}
use Rattle.tuning.specs.declared.Terms.{Terms}
use Rattle.tuning.specs.declared.Tuning.{Tuning}

-- these numbers have room to be added and multiplied
pub record Ready (h : Terms) : Type 0 where
  pub few : h.n ≤ 128
  pub grid : h.grid ≤ 1_000
  pub lost : h.lost ≤ 2 ^ 41

-- the sum of the smallest S at this TTRT
abbrev pub sum_at : ℕ → ℕ → List ℕ → List ℕ → ℕ → ℕ
sum_at grid n c d x = sum_below n (λ i. smallest_for grid x (at c i) (at d i))

-- what is needed of it
abbrev pub needed_at : Terms → List ℕ → List ℕ → ℕ → ℕ
needed_at h c d x = sum_at h.grid h.n c d x + h.lost

-- TTRT is in its range, τ is, and the smallest S fit
abbrev pub fits_at : Terms → List ℕ → List ℕ → ℕ → Bool
fits_at h c d x = between 1 most_ttrt x && between 1 x h.tau && leb (needed_at h c d x) x

-- one more TTRT tried
unfoldable pub tried_with : Terms → List ℕ → List ℕ → ℕ → Tuning → Tuning
tried_with h c d x k = cond (fits_at h c d x) (counted h.own x (x - needed_at h c d x) k) k

-- n of them
unfoldable pub tried_over : Terms → List ℕ → List ℕ → ℕ → ℕ → Tuning → Tuning
tried_over h c d from zero k = k
tried_over h c d from (suc n) k = tried_with h c d (from + n) (tried_over h c d from n k)
