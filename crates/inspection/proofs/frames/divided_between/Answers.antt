-- `divided_between` is right because the divisors of the amount come in pairs, and it ends when the smaller one of a pair would be above the other.
use Rattle.std.proofs.Common.{sym, arith}
use Rattle.inspection.proofs.FrameLaws.{none_divides, turn_found}
use Rattle.inspection.proofs.frames.divided_between.Goals as goal

pub returns-then-both-d : goal.returns-then-both-d
returns-then-both-d c =
    let loop = c.loop-d in
    let whole = c.divide_narrow-both.ensures.whole in
    sym (none_divides _ _ _ loop.d loop.invariant (omega arith) c.requires.0)

pub returns-then-whole-fits : goal.returns-then-whole-fits
returns-then-whole-fits c =
    let loop = c.loop-d in
    let both = c.divide_narrow-both.ensures in
    let small = c.in_range.ensures in
    let large = c.in_range-in-loop-d.ensures in
    sym (turn_found _ _ _ _ _ _ _ _ both.whole both.left small large loop.invariant.some c.if-both-d.false c.if-whole-fits.true)
