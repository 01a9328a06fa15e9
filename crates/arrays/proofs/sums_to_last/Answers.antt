-- `sums_to_last` is right because what is left of the sum is the sum from here to the last, and each place passed holds what was left there, held at the largest.
use Rattle.std.proofs.Common.{◌≡◌, ◌∙◌, refl, sym, arith, min}
use Rattle.units.specs.Places.{at}
use Rattle.units.proofs.PlaceLaws.{fill_none, fill_then, from_first, from_step}
use Rattle.arrays.specs.Held.{sums_to_last}
use Rattle.arrays.proofs.sums_to_last.Goals as goal

pub loop-i-init : goal.loop-i-init
loop-i-init c =
    (sym (fill_none _ _), c.sum_lent-left.ensures.sum ∙ sym (from_first (min c.args.n 128) (at c.args.xs.now)))

pub overflow_sub-left : goal.overflow_sub-left
overflow_sub-left c =
    omega (arith, from_step (min c.args.n 128) (at c.args.xs.now) c.loop-i.i (omega arith))

pub loop-i-preserved : goal.loop-i-preserved
loop-i-preserved c =
    let i = c.loop-i.i in
    (fill_then i _ _ _ _ c.loop-i.invariant.0 (omega arith), omega (arith, from_step (min c.args.n 128) (at c.args.xs.now) i (omega arith)))

pub returns : goal.returns
unfolding sums_to_last
returns c =
    let all : c.loop-i.i ≡ min c.args.n 128 = omega arith in
    c.loop-i.invariant.0 ∙ rw all refl
