-- `next_station` is right because its branch is the definition's own.
use Rattle.rings.specs.State.{following}
use Rattle.std.proofs.Common.{refl, le-ltb, lt-ltb}
use Rattle.inspection.proofs.moving.next_station.Goals as goal

pub returns-then-next-n : goal.returns-then-next-n
unfolding following
returns-then-next-n c =
    rw (lt-ltb _ _ c.if-next-n.true) refl

pub returns-else-next-n : goal.returns-else-next-n
unfolding following
returns-else-next-n c =
    rw (le-ltb _ _ c.if-next-n.false) refl
