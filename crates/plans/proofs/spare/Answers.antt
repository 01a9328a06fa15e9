-- `spare` is right because its body is the definition: τ, but for an FDDI set with F − 1, and then the sum of S come off TTRT, and each difference is held at 0.
use native.Mathlib.Omega.{arith}
use borrow.Author.Rules.{rules}
use borrow.Author.Tests.{eq-eqb, ne_eqb}
use Rattle.units.specs.Places.{at}
use Rattle.units.proofs.PlaceLaws.{sum_all}
use Rattle.plans.proofs.PlanLaws.{spare_fddi, spare_timely}
use Rattle.plans.proofs.spare.Goals as goal

pub returns-then-mode-eq-FDDI : goal.returns-then-mode-eq-FDDI
returns-then-mode-eq-FDDI c =
    let args = c.args in
    omega (arith, sum_all args.a.s (search rules) args.t.n, sum_all args.t.w (search rules) args.t.n, spare_fddi args.t (at args.a.s) (eq-eqb _ _ c.if-mode-eq-FDDI.true))

pub returns : goal.returns
returns c =
    let args = c.args in
    omega (
      arith,
      sum_all args.a.s (search rules) args.t.n,
      sum_all args.t.w (search rules) args.t.n,
      c.lost_lent.ensures.is,
      spare_timely args.t (at args.a.s) (ne_eqb _ _ c.if-mode-eq-FDDI.false),
    )
