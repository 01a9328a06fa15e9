-- `sums_to_last` is right because what is left of the sum is the sum from here to the last, and each place passed holds what was left there, held at the largest.
use Rattle.std.proofs.Common.{◌≡◌, min}
use Rattle.units.specs.Places.{at, sum_from, fill}
use Rattle.sets.specs.Judged.{zeros}
use Rattle.arrays.specs.Held.{held}
use Rattle.arrays.proofs.sums_to_last.Given as goal

abbrev pub invariant-loop-i : goal.invariant-loop-i
invariant-loop-i l =
    (l.sums ≡ fill l.i (λ j. held (sum_from j (min l.n 128) (at l.xs))) zeros) × (l.left ≡ sum_from l.i (min l.n 128) (at l.xs))
