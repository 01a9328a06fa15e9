-- What the code below the tests is called with.
use Rattle.std.specs.Prelude.{ℕ, ◌+◌, ◌≡◌}
use Rattle.sets.specs.declared.Set.{Set}
use Rattle.reasons.specs.Shortages.{Plannable, needed}

-- the set has a plan, which leaves so many ticks over
pub record Roomy (t : Set) (spare : ℕ) : Type 0 where
  pub plannable : Plannable t
  pub left_over_lem : needed t + spare ≡ t.head.ttrt
