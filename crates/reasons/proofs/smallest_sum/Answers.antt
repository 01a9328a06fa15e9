-- `smallest_sum` is right because the loop's sum is that of the stations passed; each smallest S is below 2^27, so nothing wraps.
use Prim.Native.Nat.{◌≤◌, ◌^◌}
use mathlib.Core.Path.{sym}
use native.Mathlib.Omega.{arith}
use Rattle.units.proofs.PlaceLaws.{sum_step, sum_none}
use Rattle.plans.specs.Planned.{smallest_at}
use Rattle.reasons.proofs.smallest_sum.Goals as goal

pub loop-i-init : goal.loop-i-init
loop-i-init c =
    (sym (sum_none (smallest_at c.args.t.now)), omega arith)

pub loop-i-preserved : goal.loop-i-preserved
loop-i-preserved c =
    let all = c.requires.1 in
    let one_small : c.smallest-sum.result ≤ 2 ^ 27 = omega (arith, c.smallest-sum.ensures.small, (all.stations c.loop-i.i (omega arith)).longest, all.header.ttrt.1, all.header.grid.1) in
    (omega (arith, sum_step c.loop-i.i (smallest_at c.args.t.now), c.smallest-sum.ensures.is), omega (arith, one_small))
