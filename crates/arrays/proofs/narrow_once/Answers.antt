-- `narrow_once` is right because a number and x have reached the top where the number is at least what x leaves of it.
use Prim.Native.Nat.{ℕ, ◌+◌, ◌-◌, ◌≤◌, ◌<◌}
use mathlib.Core.Path.{◌≡◌, sym, ◌∙◌}
use native.Mathlib.Omega.{arith}
use Rattle.arrays.specs.Laps.{lapped}
use Rattle.arrays.proofs.LapLaws.{lapped_up, lapped_same}
use Rattle.arrays.proofs.narrow_once.Goals as goal

-- the number has reached the top
up : (t x top : ℕ) → x < top → top - x ≤ t → t - (top - x) ≡ lapped top (t + x)
up t x top below l = let e : t - (top - x) ≡ t + x - top = omega arith in e ∙ sym (lapped_up top (t + x) (omega arith))

-- or it has not
same : (t x top : ℕ) → t < top - x → t + x ≡ lapped top (t + x)
same t x top l = sym (lapped_same top (t + x) (omega arith))

pub returns-then-gap-t : goal.returns-then-gap-t
returns-then-gap-t c =
    up _ _ _ c.requires c.if-gap-t.true

pub returns-else-gap-t : goal.returns-else-gap-t
returns-else-gap-t c =
    same _ _ _ c.if-gap-t.false
