-- `change` is right because the places passed hold what was made of them, and every other is as it was.
use Rattle.std.proofs.Common.{◌≡◌, ℕ}
use Rattle.units.specs.Places.{at, fill}
use Rattle.arrays.specs.Places.{Made}
use Rattle.arrays.proofs.change.Given as goal

abbrev pub invariant-loop-i : goal.invariant-loop-i
invariant-loop-i g l =
    (f : ℕ → ℕ → ℕ) → Made (goal.F-post g l.made) f → l.xs ≡ fill l.i (λ j. f j (at l.initial.xs j)) l.initial.xs
