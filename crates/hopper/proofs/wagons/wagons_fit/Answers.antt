-- `wagons_fit` is right because its flag is the test over the wagons passed, and it passes all of the list.
use mathlib.Core.Path.{◌≡◌, sym, ◌∙◌}
use native.Mathlib.Omega.{arith}
use Rattle.units.proofs.PlaceLaws.{all_then, all_none}
use Rattle.hopper.specs.Wagons.{wagon_fits_at}
use Rattle.hopper.proofs.wagons.wagons_fit.Goals as goal

pub loop-i-preserved : goal.loop-i-preserved
loop-i-preserved c =
    let l = c.args.list in
    all_then c.loop-i.i (wagon_fits_at l) c.loop-i.all c.wagon_fits-all.result c.loop-i.invariant c.wagon_fits-all.ensures

pub returns : goal.returns
returns c =
    let l = c.args.list in
    let end : c.loop-i.i ≡ l.n = omega arith in
    c.loop-i.invariant ∙ rw end

pub loop-i-init : goal.loop-i-init
loop-i-init c =
    sym (all_none _)
