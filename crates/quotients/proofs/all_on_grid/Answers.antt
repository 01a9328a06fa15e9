-- `all_on_grid` is right because its flag is the test over the numbers passed, and it passes the first n.
use mathlib.Core.Path.{sym}
use native.Mathlib.Omega.{arith}
use Rattle.std.proofs.lemmas.List.{get_or-take}
use Rattle.units.proofs.PlaceLaws.{all_then, all_none}
use Rattle.quotients.proofs.all_on_grid.Goals as goal

pub loop-number-init : goal.loop-number-init
loop-number-init c =
    sym (all_none _)

pub loop-number-preserved : goal.loop-number-preserved
loop-number-preserved c =
    let its = get_or-take c.places.result c.args.numbers.now c.loop-number.number-index 0 (omega arith) in
    all_then _ _ _ _ c.loop-number.invariant (rw its at c.on_grid-all.ensures)
