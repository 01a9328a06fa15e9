-- `raise` is right because the smaller of a place and what is left above x, and x, are the place's rise held at the largest.
use Rattle.std.proofs.Common.{◌+◌, arith}
use Rattle.arrays.specs.Held.{held, raised_held}
use Rattle.arrays.proofs.raise.Goals as goal

pub returns : goal.returns
unfolding raised_held
returns c =
    c.change.ensures (λ i old. held (old + c.args.x)) (λ i old r l e. omega (arith, e))
