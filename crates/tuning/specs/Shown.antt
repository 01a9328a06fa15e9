-- What the numbers of a range say: none is missed, the count is exact, each choice is the one that its name says.
use Rattle.std.specs.Prelude.{ℕ, ◌+◌, ◌*◌, ◌≤◌, ◌<◌, ◌≡◌, cond}
use Rattle.units.specs.Places.{sum_below}
use Rattle.sets.specs.declared.Set.{Set}
use Rattle.tuning.specs.Tunings.{planned_at, has_plan, spare_at}
use Rattle.tuning.specs.declared.Tuning.{Tuning}

-- x is one of the n TTRT from this one on, and planning finds a plan at it
pub record PlannedIn (t : Set) (from n x : ℕ) : Type 0 where
  pub first : from ≤ x
  pub last : x < from + n
  pub plan : (planned_at t x).number ≡ 0

-- r is the one of those which comes before all the others; 0 where there is none
pub record Chosen (among : ℕ → Type 0) (before : ℕ → ℕ → Type 0) (r : ℕ) : Type 0 where
  pub one : 0 < r → among r
  pub none : r ≡ 0 → (x : ℕ) → ¬ among x
  pub first : (x : ℕ) → among x → before r x

-- below the set's own TTRT
abbrev pub PlannedBelow : Set → ℕ → ℕ → ℕ → Type 0
PlannedBelow t from n x = PlannedIn t from n x × (x < t.head.ttrt)

-- above it
abbrev pub PlannedAbove : Set → ℕ → ℕ → ℕ → Type 0
PlannedAbove t from n x = PlannedIn t from n x × (t.head.ttrt < x)

-- the smaller comes first
abbrev pub Smaller : ℕ → ℕ → Type 0
Smaller r x = r ≤ x

-- the larger comes first
abbrev pub Larger : ℕ → ℕ → Type 0
Larger r x = x ≤ r

-- the larger part A* / TTRT comes first, and of equal parts the smaller TTRT
pub record Better (t : Set) (r x : ℕ) : Type 0 where
  pub part : spare_at t x * r ≤ spare_at t r * x
  pub smallest : spare_at t x * r ≡ spare_at t r * x → r ≤ x

-- what k shows of the n TTRT from this one on
pub record Shown (t : Set) (from n : ℕ) (k : Tuning) : Type 0 where
  -- one for each TTRT that has a plan, and none for another
  pub count : k.count ≡ sum_below n (λ i. cond (has_plan t (from + i)) 1 0)
  pub smallest : Chosen (PlannedIn t from n) Smaller k.smallest
  pub largest : Chosen (PlannedIn t from n) Larger k.largest
  -- the nearest below and above the set's own TTRT
  pub below : Chosen (PlannedBelow t from n) Larger k.below
  pub above : Chosen (PlannedAbove t from n) Smaller k.above
  -- the one that leaves the largest part of the rotation for asynchronous traffic, and its A*
  pub best : Chosen (PlannedIn t from n) (Better t) k.best
  pub spare : 0 < k.best → k.spare ≡ spare_at t k.best
