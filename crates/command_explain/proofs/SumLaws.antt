-- A* is at most TTRT.
use Prim.Native.Nat.{ℕ, ◌≤◌}
use mathlib.Core.Bool.{Bool, true, false, cond}
use native.Mathlib.Omega.{arith}
use Rattle.units.specs.Places.{at}
use Rattle.sets.specs.declared.Set.{Set}
use Rattle.plans.specs.Rules.{spare_time, is_fddi}
use Rattle.plans.specs.declared.Alloc.{Alloc}

either_small : (b : Bool) (x y most : ℕ) → x ≤ most → y ≤ most → cond b x y ≤ most
either_small true x y most h k = h
either_small false x y most h k = k

pub spare_small : (t : Set) (a : Alloc) → spare_time t (at a.s) ≤ t.head.ttrt
unfolding spare_time
spare_small t a = either_small (is_fddi t) _ _ _ (omega arith) (omega arith)
