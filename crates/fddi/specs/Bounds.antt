-- What the quotient of X hands back: the definition's number and, for whoever multiplies on, how large it can be.
use Rattle.std.specs.Prelude.{ℕ, ◌*◌, ◌/◌, ◌≤◌, ◌≡◌}

-- r is a / b rounded down
pub record Whole (a b r : ℕ) : Type 0 where
  pub is : r ≡ a / b
  pub small : r ≤ a
  pub within : r * b ≤ a
