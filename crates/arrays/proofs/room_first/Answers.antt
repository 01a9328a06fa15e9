-- `room_first` is right because its sum is that of the places passed.
use Rattle.std.proofs.Common.{◌-◌, sym, arith}
use Rattle.units.specs.Places.{at}
use Rattle.units.proofs.PlaceLaws.{sum_step, sum_none}
use Rattle.arrays.proofs.room_first.Goals as goal

pub loop-i-init : goal.loop-i-init
loop-i-init c =
    (sym (sum_none _), omega arith)

pub loop-i-preserved : goal.loop-i-preserved
loop-i-preserved c =
    (omega (arith, sum_step c.loop-i.i (λ j. at c.args.xs.now j - at c.args.taken.now j)), omega arith)
