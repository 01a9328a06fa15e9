-- `sum_lent` is right because the loop's sum is the sum of the places passed.
use mathlib.Core.Path.{sym}
use native.Mathlib.Omega.{arith}
use Rattle.std.proofs.lemmas.List.{get_or-take}
use Rattle.units.specs.Places.{at}
use Rattle.units.proofs.PlaceLaws.{sum_step, sum_none}
use Rattle.units.proofs.sum_lent.Goals as goal

pub loop-x-init : goal.loop-x-init
loop-x-init c =
    (sym (sum_none (at c.args.xs.now)), omega arith)

pub loop-x-preserved : goal.loop-x-preserved
loop-x-preserved c =
    let i = c.loop-x.x-index in
    let xs = c.args.xs.now in
    let its = get_or-take c.places.result xs i 0 (omega arith) in
    (omega (arith, sum_step i (at xs), its), omega arith)
