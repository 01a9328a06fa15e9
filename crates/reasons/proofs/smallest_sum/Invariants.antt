-- `smallest_sum` is right because the loop's sum is that of the stations passed; each smallest S is below 2^27, so nothing wraps.
use Prim.Native.Nat.{◌≤◌, ◌*◌, ◌^◌}
use mathlib.Core.Path.{◌≡◌}
use Rattle.units.specs.Places.{sum_below}
use Rattle.plans.specs.Planned.{smallest_at}
use Rattle.reasons.proofs.smallest_sum.Given as goal

abbrev pub invariant-loop-i : goal.invariant-loop-i
invariant-loop-i l =
    (l.sum ≡ sum_below l.i (smallest_at l.t)) × (l.sum ≤ l.i * 2 ^ 27)
