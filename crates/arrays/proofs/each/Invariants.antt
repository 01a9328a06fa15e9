-- `each` is right because its flag is the test over the places passed.
use Rattle.std.proofs.Common.{◌≡◌, ℕ, Bool}
use Rattle.units.specs.Places.{all_below}
use Rattle.arrays.specs.Places.{Told}
use Rattle.arrays.proofs.each.Given as goal

abbrev pub invariant-loop-i : goal.invariant-loop-i
invariant-loop-i g l =
    (p : ℕ → Bool) → Told (goal.F-post g l.holds) p → l.all ≡ all_below l.i p
