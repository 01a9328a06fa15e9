-- What is promised of another TTRT; `proofs/Promised.antt` proves it.
use Rattle.std.specs.Prelude.{ℕ, ◌+◌, ◌≤◌, ◌≡◌, ◌↔◌, ◌≢◌, ◌⊎◌}
use Rattle.units.specs.Numbers.{most_ttrt}
use Rattle.sets.specs.declared.Set.{Set}
use Rattle.tuning.specs.Cases.{Cases}
use Rattle.tuning.specs.Shown.{PlannedIn, Shown}
use Rattle.tuning.specs.Tunings.{judged_at_all, planned_at, tuned_over, tuned}
use Rattle.tuning.specs.declared.Tuning.{Tuning}

pub record Promised : Type 0 where
  -- of any set and any range of TTRT: none is missed, the count is exact, the best is the best
  pub shown : (t : Set) (from n : ℕ) → Shown t from n (tuned t from n)
  -- nothing is counted exactly where none of the range has a plan
  pub none : (t : Set) (from n : ℕ) → ((tuned t from n).count ≡ 0) ↔ ((x : ℕ) → ¬ PlannedIn t from n x)
  -- a set that is refused whatever TTRT is has no plan at any
  pub refused : (t : Set) (x : ℕ) → judged_at_all t ≢ 0 → (planned_at t x).number ≢ 0
  -- refused as planning refuses at each TTRT from 1 to 1,000,000; but where it is FDDI that is refused, τ may be refused first
  pub as_planning : (t : Set) (x : ℕ)
      → judged_at_all t ≢ 0 → 1 ≤ x → x ≤ most_ttrt
      → ((planned_at t x).number ≡ judged_at_all t) ⊎ ((judged_at_all t ≡ 16) × ((planned_at t x).number ≡ 5))
  -- every other one is given 0, 5 or 6 at each
  pub at_each : (t : Set) (x : ℕ)
      → judged_at_all t ≡ 0 → 1 ≤ x → x ≤ most_ttrt
      → ((planned_at t x).number ≡ 0) ⊎ ((planned_at t x).number ≡ 5) ⊎ ((planned_at t x).number ≡ 6)
  -- there is no plan outside 1 to 1,000,000
  pub ends : (t : Set) (from n x : ℕ) → PlannedIn t from n x → (1 ≤ x) × (x ≤ most_ttrt)
  -- a range tried in two parts is tried whole
  pub joined : (t : Set) (from a b : ℕ) (k : Tuning)
      → tuned_over t (from + a) b (tuned_over t from a k) ≡ tuned_over t from (a + b) k
  pub cases : Cases
