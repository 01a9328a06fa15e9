-- How far the divisor is doubled before it comes back down: as many turns as the quotient has bits below its highest.
use Rattle.std.specs.Prelude.{ℕ, ◌+◌, ◌*◌, ◌^◌, ◌≤◌, ◌<◌, ◌≡◌}

-- the part is the divisor doubled so many times
pub record Doubled (divisor part : ℕ) : Type 0 where
  pub turns : ℕ
  pub is : part ≡ divisor * 2 ^ turns

-- the highest such part that the dividend holds
pub record Raised (dividend divisor part : ℕ) : Type 0 where
  pub doubled : Doubled divisor part
  pub within : part ≤ dividend
  pub highest : dividend < part + part
