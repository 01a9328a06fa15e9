-- What a division hands back, for numbers of any width. In the logic, as here, a number divided by 0 gives 0 and is left over whole; `Promised` says so.
use Rattle.std.specs.Prelude.{ℕ, ◌/◌, ◌%◌, ◌≤◌, ◌≡◌}
use Rattle.units.specs.Small.{rounded_up}

-- the quotient is the whole part of dividend / divisor, the remainder what is left over
pub record Divided (dividend divisor quotient remainder : ℕ) : Type 0 where
  pub whole : quotient ≡ dividend / divisor
  pub left : remainder ≡ dividend % divisor
  -- for whoever adds or multiplies on: neither is above the dividend
  pub small : quotient ≤ dividend
  pub left_small : remainder ≤ dividend

-- the share is dividend / divisor rounded up
pub record Share (dividend divisor share : ℕ) : Type 0 where
  pub is : share ≡ rounded_up dividend divisor
  pub small : share ≤ dividend
