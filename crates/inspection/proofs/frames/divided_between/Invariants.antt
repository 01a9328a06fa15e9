-- `divided_between` is right because the divisors of the amount come in pairs, and it ends when the smaller one of a pair would be above the other.
use Rattle.std.proofs.Common.{◌-◌}
use Rattle.inspection.proofs.FrameLaws.{Tried}
use Rattle.inspection.proofs.frames.divided_between.Given as goal

abbrev pub invariant-loop-d : goal.invariant-loop-d
invariant-loop-d l =
    Tried l.amount l.low l.high l.d

abbrev pub decreases-loop-d : goal.decreases-loop-d
decreases-loop-d l =
    65_537 - l.d
