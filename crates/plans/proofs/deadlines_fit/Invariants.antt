-- `deadlines_fit` is right because its flag is the rule over the stations passed, and it passes the first n.
use mathlib.Core.Path.{◌≡◌}
use Rattle.units.specs.Places.{at, all_below}
use Rattle.plans.specs.Lent.{timely_fits_in}
use Rattle.plans.proofs.deadlines_fit.Given as goal

abbrev pub invariant-loop-i : goal.invariant-loop-i
invariant-loop-i l =
    l.all ≡ all_below l.i (timely_fits_in l.ttrt l.c l.d (at l.s))
