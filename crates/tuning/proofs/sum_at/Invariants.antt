-- `sum_at` is right because the loop's sum is that of the stations passed; each smallest S is below 2^34, so nothing wraps.
use Prim.Native.Nat.{ℕ, ◌≤◌, ◌*◌, ◌^◌}
use mathlib.Core.Path.{◌≡◌}
use mathlib.Core.List.{List}
use Rattle.units.specs.Places.{at, sum_below}
use Rattle.plans.specs.Planned.{smallest_for}
use Rattle.tuning.proofs.sum_at.Given as goal

-- the smallest S at each station
abbrev pub each : ℕ → ℕ → List ℕ → List ℕ → ℕ → ℕ
each grid x c d i = smallest_for grid x (at c i) (at d i)

abbrev pub invariant-loop-i : goal.invariant-loop-i
invariant-loop-i l =
    (l.sum ≡ sum_below l.i (each l.grid l.ttrt l.c l.d)) × (l.sum ≤ l.i * 2 ^ 34)
