-- `shortage_of` is right because its four numbers are the definition's; the sums are far below 2^64.
use mathlib.Core.Path.{◌≡◌, sym, ◌∙◌}
use mathlib.Core.Bool.{true}
use Rattle.sets.proofs.SetLaws.{allowed}
use Rattle.reasons.specs.Shortages.{plannable}
use Rattle.reasons.proofs.PlanningLaws.{decides_plannable}
use Rattle.reasons.proofs.ShortageLaws.{shortage_says, shortage_none}
use Rattle.reasons.proofs.shortage_of.Goals as goal

pub returns-then-not-plannable : goal.returns-then-not-plannable
returns-then-not-plannable c =
    sym (shortage_none _ (sym c.plannable.ensures ∙ c.if-not-plannable.true))

pub smallest_sum-sum-requires : goal.smallest_sum-sum-requires
smallest_sum-sum-requires c =
    let is_plannable : plannable c.args.t ≡ true = sym c.plannable.ensures ∙ c.if-not-plannable.false in
    let t = c.args.t in
    let all = (allowed t).0 ((decides_plannable t).0 is_plannable).0 in
    (all.0, all.1.0)

pub returns : goal.returns
returns c =
    let is_plannable : plannable c.args.t ≡ true = sym c.plannable.ensures ∙ c.if-not-plannable.false in
    rw (c.saturating_sub-2.ensures, c.saturating_sub.ensures, c.from-ttrt.ensures, c.lost_time-gone.ensures.is, c.smallest_sum-sum.ensures.is)
    (sym (shortage_says _ is_plannable))
