-- `lowered` is right because the dividend is always the quotient times the part and the rest, with the rest below the part; at the end the part is the divisor.
use Rattle.quotients.specs.Turns.{Doubled}
use Rattle.quotients.proofs.Laws.{Kept}
use Rattle.quotients.proofs.lowered.Given as goal

abbrev pub invariant-loop-part : goal.invariant-loop-part
invariant-loop-part l =
    Doubled l.divisor l.part × Kept l.dividend l.part l.quotient l.rest

abbrev pub decreases-loop-part : goal.decreases-loop-part
decreases-loop-part l =
    l.part
