-- `switch_through` is right because its branch is the definition's, and so are its two stores.
use mathlib.Core.Path.{sym}
use Rattle.rings.specs.Marking.{switched_through}
use Rattle.rings.proofs.MarkLaws.{ring_marked, ring_unmarked}
use Rattle.rings.proofs.TimerLaws.{none_left}
use Rattle.rings.proofs.marking.switch_through.Goals as goal

pub returns-then-ring-i-gt0 : goal.returns-then-ring-i-gt0
returns-then-ring-i-gt0 c =
    sym (ring_marked _ _ c.if-ring-i-gt0.true)

pub returns : goal.returns
unfolding switched_through
returns c =
    sym (ring_unmarked _ _ (none_left _ c.if-ring-i-gt0.false))
