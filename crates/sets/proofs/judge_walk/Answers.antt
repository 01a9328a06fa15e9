-- `judge_walk` is right because its test is the definition's, of the sum of the walk times.
use Prim.Native.Nat.{min}
use mathlib.Core.Path.{◌≡◌, refl, sym, ◌∙◌}
use mathlib.Core.Bool.{◌&&◌}
use lib.Dec.{leb}
use Rattle.units.specs.Places.{at, sum_below}
use Rattle.units.specs.Judging.{between}
use Rattle.units.proofs.JudgingLaws.{held, failed}
use Rattle.sets.proofs.judge_walk.Goals as goal

pub returns-then-not-walk_fits : goal.returns-then-not-walk_fits
returns-then-not-walk_fits c =
    let said : (leb 1 c.sum_lent-tau.result && leb c.sum_lent-tau.result c.from.result) ≡ between 1 c.args.ttrt (sum_below (min c.args.n 128) (at c.args.w.now)) = rw (c.sum_lent-tau.ensures.sum, c.from.ensures) refl in
    sym (failed _ _ _ (sym said ∙ c.if-not-walk_fits.true))

pub returns : goal.returns
returns c =
    let said : (leb 1 c.sum_lent-tau.result && leb c.sum_lent-tau.result c.from.result) ≡ between 1 c.args.ttrt (sum_below (min c.args.n 128) (at c.args.w.now)) = rw (c.sum_lent-tau.ensures.sum, c.from.ensures) refl in
    sym (held _ _ _ (sym said ∙ c.if-not-walk_fits.false))
