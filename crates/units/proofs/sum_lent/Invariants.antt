-- `sum_lent` is right because the loop's sum is the sum of the places passed.
use Prim.Native.Nat.{◌≤◌, ◌*◌, ◌^◌}
use mathlib.Core.Path.{◌≡◌}
use Rattle.units.specs.Places.{at, sum_below}
use Rattle.units.proofs.sum_lent.Given as goal

abbrev pub invariant-loop-x : goal.invariant-loop-x
invariant-loop-x l =
    (l.sum ≡ sum_below l.x-index (at l.xs)) × (l.sum ≤ l.x-index * 2 ^ 32)
