-- What is promised of division beside the contracts; `proofs/Promised.antt` proves it.
use Rattle.std.specs.Prelude.{ℕ, ◌+◌, ◌*◌, ◌/◌, ◌^◌, ◌≤◌, ◌<◌, ◌≡◌, ◌↔◌}
use Rattle.std.specs.Int.{◌∣◌}
use Rattle.quotients.specs.Division.{Divided, Share}
use Rattle.quotients.specs.Turns.{Raised}
use Rattle.quotients.specs.Steps.{SmallestMultiple}
use Rattle.units.specs.Grid.{MultipleOf, on_grid, AllOnGrid, all_on_grid, stepped}
use Rattle.units.specs.Judging.{Decides}

pub record Promised : Type 0 where
  -- the quotient times the divisor and the remainder are together the dividend, by 0 too
  pub together : (dividend divisor quotient remainder : ℕ)
      → Divided dividend divisor quotient remainder → quotient * divisor + remainder ≡ dividend
  -- the remainder is below the divisor
  pub below : (dividend divisor quotient remainder : ℕ)
      → 0 < divisor → Divided dividend divisor quotient remainder → remainder < divisor
  -- no other two numbers are so
  pub no_second : (dividend divisor quotient remainder : ℕ)
      → quotient * divisor + remainder ≡ dividend → remainder < divisor → Divided dividend divisor quotient remainder
  -- by 0 the quotient is 0, and all of the dividend is left over
  pub by_zero : (dividend quotient remainder : ℕ)
      → Divided dividend 0 quotient remainder → (quotient ≡ 0) × (remainder ≡ dividend)
  -- nothing is left over exactly if the divisor divides the dividend; 0 divides 0 alone
  pub divides : (dividend divisor quotient remainder : ℕ)
      → Divided dividend divisor quotient remainder → (remainder ≡ 0) ↔ (divisor ∣ dividend)
  -- the rounded-up quotient times the divisor is enough for the dividend
  pub enough : (dividend divisor share : ℕ) → 0 < divisor → Share dividend divisor share → dividend ≤ share * divisor
  -- and it is the smallest number that is
  pub least : (dividend divisor share other : ℕ)
      → 0 < divisor → Share dividend divisor share → dividend ≤ other * divisor → share ≤ other
  -- by 0 the rounded-up quotient is 0
  pub share_by_zero : (dividend share : ℕ) → Share dividend 0 share → share ≡ 0
  -- the divisor is doubled one time less than the quotient has bits: with k doublings the quotient is 2^k or above, and below 2^(k + 1)
  pub turns : (dividend divisor part : ℕ)
      → 0 < divisor → (h : Raised dividend divisor part)
      → (2 ^ h.doubled.turns ≤ dividend / divisor) × (dividend / divisor < 2 ^ (h.doubled.turns + 1))
  -- the multiple that is handed back is the smallest of which so many shares are enough
  pub smallest_multiple : (grid shares need : ℕ)
      → 0 < grid → 0 < shares → SmallestMultiple grid shares need (stepped grid shares need)
  -- no second number is so
  pub no_second_multiple : (grid shares need r : ℕ)
      → 0 < grid → 0 < shares → SmallestMultiple grid shares need r → r ≡ stepped grid shares need
  -- in steps of 0, or shared among nobody, it is 0
  pub no_multiple : (grid shares need : ℕ) → shares * grid ≡ 0 → stepped grid shares need ≡ 0
  -- the test finds the multiples of the grid and no other number; on a grid of 0 there is 0 alone
  pub on_grid_lem : (grid x : ℕ) → Decides (on_grid grid x) (MultipleOf grid x)
  -- and the test of a vector finds the vectors of multiples
  pub all_on_grid_lem : (grid n : ℕ) (s : ℕ → ℕ) → Decides (all_on_grid grid n s) (AllOnGrid grid n s)
