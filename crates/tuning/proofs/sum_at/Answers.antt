-- `sum_at` is right because the loop's sum is that of the stations passed; each smallest S is below 2^34, so nothing wraps.
use mathlib.Core.Path.{sym}
use native.Mathlib.Omega.{arith}
use Rattle.units.proofs.PlaceLaws.{sum_step, sum_none}
use Rattle.tuning.proofs.sum_at.Goals as goal
use Rattle.tuning.proofs.sum_at.Invariants.{each}

pub loop-i-init : goal.loop-i-init
loop-i-init c =
    (sym (sum_none _), omega arith)

pub loop-i-preserved : goal.loop-i-preserved
loop-i-preserved c =
    let args = c.args in
    (omega (arith, sum_step c.loop-i.i (each args.grid args.ttrt args.c.now args.d.now)), omega arith)
