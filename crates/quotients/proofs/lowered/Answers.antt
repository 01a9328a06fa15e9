-- `lowered` is right because the dividend is always the quotient times the part and the rest, with the rest below the part; at the end the part is the divisor.
use mathlib.Core.Path.{◌≡◌}
use native.Mathlib.Omega.{arith}
use Rattle.quotients.proofs.Laws.{part_least, Halved, halved, kept_out, kept_in_lem, kept_last}
use Rattle.quotients.proofs.lowered.Goals as goal

pub loop-part-preserved-then-part-rest : goal.loop-part-preserved-then-part-rest
loop-part-preserved-then-part-rest c =
    let turn : Halved c.args.divisor c.loop-part.part = halved c.loop-part.invariant.0 (omega arith) in
    (turn.half, kept_in_lem turn.twice (omega arith) c.loop-part.invariant.1)

pub loop-part-preserved : goal.loop-part-preserved
loop-part-preserved c =
    let turn : Halved c.args.divisor c.loop-part.part = halved c.loop-part.invariant.0 (omega arith) in
    (turn.half, kept_out turn.twice (omega arith) c.loop-part.invariant.1)

pub returns : goal.returns
returns c =
    let loop = c.loop-part in
    let last : loop.part ≡ c.args.divisor = omega (arith, part_least loop.invariant.0) in
    kept_last (rw last at loop.invariant.1)
