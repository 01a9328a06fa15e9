-- `smallest_alloc` is right because the places passed hold the smallest S; in an allowed set it is far below 2^32.
use mathlib.Core.Path.{sym}
use Rattle.units.proofs.PlaceLaws.{fill_none, fill_then}
use Rattle.plans.proofs.smallest_alloc.Goals as goal

pub loop-i-init : goal.loop-i-init
loop-i-init c =
    sym (fill_none _ _)

pub loop-i-preserved : goal.loop-i-preserved
loop-i-preserved c =
    fill_then _ _ _ _ _ c.loop-i.invariant c.smallest-least.ensures.is
