-- `alloc_in_range` is right because its flag is the test over the stations passed, and it passes the first n.
use mathlib.Core.Path.{◌≡◌}
use Rattle.units.specs.Places.{at, all_below}
use Rattle.plans.specs.Rules.{in_range_s}
use Rattle.plans.proofs.alloc_in_range.Given as goal

abbrev pub invariant-loop-share : goal.invariant-loop-share
invariant-loop-share l =
    l.all ≡ all_below l.share-index (in_range_s (at l.s))
