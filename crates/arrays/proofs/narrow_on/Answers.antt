-- `narrow_on` is right because it looks at the top twice, as the definition does, and what is left is a 32-bit number.
use Prim.Native.Nat.{ℕ, ◌+◌, ◌^◌, ◌<◌}
use mathlib.Core.Path.{◌≡◌, ap, ◌∙◌}
use native.Mathlib.Omega.{arith}
use borrow.Author.Rules.{rules}
use Rattle.arrays.specs.Held.{held}
use Rattle.arrays.specs.Laps.{lapped, lapped_twice}
use Rattle.arrays.proofs.narrow_on.Goals as goal

-- the numbers one after another
looked : (t x top once twice : ℕ) → once ≡ lapped top (t + x) → twice ≡ lapped top once → twice < 2 ^ 32 → twice ≡ held (lapped_twice top (t + x))
looked t x top once twice first second small = let e : twice ≡ held twice = omega arith in e ∙ ap held (second ∙ ap (lapped top) first)

pub returns : goal.returns
returns c =
    looked _ _ _ _ _ c.narrow_once.ensures c.narrow_less.ensures (search rules)
