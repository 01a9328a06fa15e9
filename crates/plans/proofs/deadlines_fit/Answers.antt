-- `deadlines_fit` is right because its flag is the rule over the stations passed, and it passes the first n.
use mathlib.Core.Path.{◌≡◌, refl, sym}
use lib.Dec.{leb}
use Rattle.units.specs.Places.{at}
use Rattle.units.proofs.PlaceLaws.{all_then, all_none}
use Rattle.plans.specs.Lent.{timely_fits_in}
use Rattle.plans.proofs.deadlines_fit.Goals as goal

pub loop-i-init : goal.loop-i-init
loop-i-init c =
    sym (all_none _)

pub loop-i-preserved : goal.loop-i-preserved
loop-i-preserved c =
    let args = c.args in
    let one : leb c.from.result c.least_time.result ≡ timely_fits_in args.ttrt args.c.now args.d.now (at args.s.now) c.loop-i.i = rw (c.from.ensures, c.least_time.ensures) refl in
    all_then _ _ _ _ c.loop-i.invariant one
