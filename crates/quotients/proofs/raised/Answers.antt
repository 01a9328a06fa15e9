-- `raised` is right because the part is always the divisor doubled some times, and it is doubled once more exactly while twice the part is at most the dividend.
use native.Mathlib.Omega.{arith}
use Rattle.quotients.proofs.Laws.{one_turn}
use Rattle.quotients.proofs.raised.Goals as goal

pub loop-part-preserved : goal.loop-part-preserved
loop-part-preserved c =
    (one_turn c.loop-part.invariant.0, omega arith)
