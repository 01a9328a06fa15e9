-- What the quotient of planning hands back: the definitions' numbers and, for whoever adds and multiplies on, how large they can be.
use Rattle.std.specs.Prelude.{ℕ, ◌*◌, ◌≤◌, ◌<◌, ◌^◌, ◌≡◌}
use Rattle.units.specs.Vectors.{whole_rotations}
use Rattle.plans.specs.Rules.{lost, alpha}
use Rattle.sets.specs.declared.Set.{Set}
use Rattle.plans.specs.declared.shares.Turns.{Turns}

-- r is m and α
pub record Rotated (ttrt d : ℕ) (r : Turns) : Type 0 where
  pub whole : r.whole ≡ whole_rotations ttrt d
  pub alpha : r.alpha ≡ alpha ttrt d
  pub small : r.whole ≤ d
  pub within : r.whole * ttrt ≤ d
  pub alpha_small : r.alpha ≤ ttrt

-- r is the time that no station may plan with
pub record Lost (t : Set) (r : ℕ) : Type 0 where
  pub is : r ≡ lost t
  pub small : r < 2 ^ 41
