-- The smallest multiple of a grid of which so many shares are enough, and how large it can be.
use Rattle.std.specs.Prelude.{ℕ, ◌+◌, ◌*◌, ◌^◌, ◌≤◌, ◌<◌, ◌≡◌, ◌⊎◌}
use Rattle.units.specs.Grid.{MultipleOf, stepped}

-- r is the smallest multiple of the grid of which so many shares are enough; no rule but these three says which
pub record SmallestMultiple (grid shares need r : ℕ) : Type 0 where
  pub multiple : MultipleOf grid r
  pub enough : need ≤ shares * r
  pub least : (other : ℕ) → MultipleOf grid other → need ≤ shares * other → r ≤ other

-- what the function hands back
pub record Stepped (grid shares need r : ℕ) : Type 0 where
  -- up to these sizes the multiple
  pub is : shares ≤ 2 ^ 32 → need ≤ 2 ^ 62 → r ≡ stepped grid shares need
  -- beyond them 0
  pub too_large : (2 ^ 32 < shares) ⊎ (2 ^ 62 < need) → r ≡ 0
  -- for whoever adds on: it is at most one step too large
  pub small : r ≤ need + grid
