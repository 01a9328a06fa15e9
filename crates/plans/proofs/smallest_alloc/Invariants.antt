-- `smallest_alloc` is right because the places passed hold the smallest S; in an allowed set it is far below 2^32.
use mathlib.Core.Path.{◌≡◌}
use Rattle.units.specs.Places.{fill}
use Rattle.sets.specs.Judged.{zeros}
use Rattle.plans.specs.Planned.{smallest_at}
use Rattle.plans.proofs.smallest_alloc.Given as goal

abbrev pub invariant-loop-i : goal.invariant-loop-i
invariant-loop-i l =
    l.s ≡ fill l.i (smallest_at l.t) zeros
