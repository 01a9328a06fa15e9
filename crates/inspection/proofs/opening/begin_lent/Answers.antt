-- `begin_lent` is right because each of its numbers is the definition's, and a place past the 128th adds nothing.
use Rattle.std.proofs.Common.{refl}
use Rattle.units.proofs.PlaceLaws.{sum_all}
use Rattle.inspection.specs.Opening.{begun}
use Rattle.inspection.proofs.opening.begin_lent.Goals as goal

pub returns : goal.returns
unfolding begun
returns c walks shares head x d p =
    let args = c.args in
    rw (c.shown-unused.ensures, c.sum_lent-2.ensures.sum, sum_all args.s.now shares args.n, c.shown-clock.ensures, c.sum_lent.ensures.sum, sum_all args.w.now walks args.n, c.passing_times-base.ensures) refl
