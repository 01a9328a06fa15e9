-- `judge_list` is right because its two tests are the definition's, in the definition's order.
use mathlib.Core.Path.{sym, ◌∙◌}
use Rattle.hopper.proofs.WagonLaws.{decides_count, list_2, list_4, list_0}
use Rattle.hopper.proofs.judge_list.Goals as goal

pub returns-then-not-count_fits : goal.returns-then-not-count_fits
returns-then-not-count_fits c =
    sym (list_2 _ c.if-not-count_fits.true)

pub wagons_fit-requires : goal.wagons_fit-requires
wagons_fit-requires c =
    ((decides_count c.args.list).0 c.if-not-count_fits.false).1

pub returns-then-not-wagons_fit : goal.returns-then-not-wagons_fit
returns-then-not-wagons_fit c =
    sym (list_4 _ c.if-not-count_fits.false (sym c.wagons_fit.ensures ∙ c.if-not-wagons_fit.true))

pub returns : goal.returns
returns c =
    sym (list_0 _ c.if-not-count_fits.false (sym c.wagons_fit.ensures ∙ c.if-not-wagons_fit.false))
