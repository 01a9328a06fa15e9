-- `passing_times` is right because what was walked so far is the sum of w before the present station, on the counter.
use Rattle.std.proofs.Common.{◌≡◌, ℕ, ◌%◌, ◌^◌, List}
use Rattle.units.specs.Places.{at, sum_below, fill, zeros}
use Rattle.inspection.proofs.opening.passing_times.Given as goal

-- when the rotation passed station j
abbrev pub passed : List ℕ → ℕ → ℕ
passed w j = sum_below j (at w) % 2 ^ 32

abbrev pub invariant-loop-i : goal.invariant-loop-i
invariant-loop-i l =
    (l.walked ≡ passed l.w l.i) × (l.times ≡ fill l.i (passed l.w) zeros)
