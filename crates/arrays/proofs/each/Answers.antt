-- `each` is right because its flag is the test over the places passed.
use Rattle.std.proofs.Common.{sym, arith}
use Rattle.units.proofs.PlaceLaws.{all_none, all_then}
use Rattle.arrays.proofs.each.Goals as goal

pub loop-i-init : goal.loop-i-init
loop-i-init g c p told =
    sym (all_none p)

pub loop-i-preserved : goal.loop-i-preserved
loop-i-preserved g c p told =
    all_then c.loop-i.i p _ _ (c.loop-i.invariant p told) (told _ _ (omega arith) c.holds-all.ensures)
