-- `allocation_of` is right because it keeps the set's number, refuses an FDDI set next, and of the smallest S the token rule alone is in question.
use mathlib.Core.Path.{◌≡◌, sym, ap, ◌∙◌}
use mathlib.Core.Bool.{Bool, true, false}
use native.Mathlib.Omega.{arith}
use borrow.Author.Tests.{ne_eqb}
use Rattle.std.proofs.lemmas.Result.{err_from_is_err_and}
use Rattle.units.specs.Refusals.{refusal_number}
use Rattle.units.proofs.RefusalLaws.{refused_is_not}
use Rattle.std.proofs.Common.{eq-eqb}
use Rattle.units.specs.Places.{at}
use Rattle.sets.specs.Judged.{judged}
use Rattle.sets.proofs.SetLaws.{allowed}
use Rattle.sets.specs.declared.Set.{Set}
use Rattle.plans.specs.Rules.{is_fddi, token_fits}
use Rattle.plans.specs.Planned.{smallest_alloc, smallest_fits}
use Rattle.plans.specs.declared.Alloc.{Alloc}
use Rattle.plans.proofs.LeastLaws.{smallest_fits_lem, plan_refused_set, plan_retired, plan_none, plan_found}
use Rattle.plans.proofs.allocation_of.Goals as goal

pub returns-in_err-judge_lent : goal.returns-in_err-judge_lent
returns-in_err-judge_lent c =
    let t = c.args.t.now in
    let said : refusal_number c.in_err-judge_lent.field-0.0 ≡ judged t = c.in_err-judge_lent.ensures in
    let p = err_from_is_err_and c.from_residual.result c.from_residual.ensures.1 in
    rw (p.1, p.2, said) (sym (plan_refused_set t (λ none. refused_is_not _ (said ∙ none))))

pub returns-then-retired : goal.returns-then-retired
returns-then-retired c =
    let t = c.args.t.now in
    let judged_0 : judged t ≡ 0 = sym c.in_ok-judge_lent.ensures in
    let retired : is_fddi t ≡ true = eq-eqb _ _ c.if-retired.true in
    sym (plan_retired t judged_0 retired)

pub smallest_alloc-alloc-requires : goal.smallest_alloc-alloc-requires
smallest_alloc-alloc-requires c =
    let all = (allowed c.args.t.now).0 (sym c.in_ok-judge_lent.ensures) in
    (all.0.1, λ i l. omega (arith, all.1.0.stations i l, all.1.0.header))

pub token_fits-requires : goal.token_fits-requires
token_fits-requires c =
    ((allowed c.args.t.now).0 (sym c.in_ok-judge_lent.ensures)).0.1

-- the code's test of the smallest S is the definition's
fits_said : (t : Set) (a : Alloc) (fits : Bool) → judged t ≡ 0 → is_fddi t ≡ false → a ≡ smallest_alloc t → fits ≡ token_fits t (at a.s) → fits ≡ smallest_fits t
fits_said t a fits judged_0 timely smallest token =
    let all = (allowed t).0 judged_0 in
    token ∙ ap (λ (b : Alloc). token_fits t (at b.s)) smallest ∙ smallest_fits_lem t timely all.0.1 all.1.0.header.grid.0

pub returns-then-not-token_fits : goal.returns-then-not-token_fits
returns-then-not-token_fits c =
    let t = c.args.t.now in
    let judged_0 : judged t ≡ 0 = sym c.in_ok-judge_lent.ensures in
    let timely : is_fddi t ≡ false = ne_eqb _ _ c.if-retired.false in
    let fits = fits_said t _ _ judged_0 timely c.smallest_alloc-alloc.ensures c.token_fits.ensures in
    sym (plan_none t judged_0 timely (sym fits ∙ c.if-not-token_fits.true))

pub returns : goal.returns
returns c =
    let t = c.args.t.now in
    let judged_0 : judged t ≡ 0 = sym c.in_ok-judge_lent.ensures in
    let timely : is_fddi t ≡ false = ne_eqb _ _ c.if-retired.false in
    let fits = fits_said t _ _ judged_0 timely c.smallest_alloc-alloc.ensures c.token_fits.ensures in
    rw c.smallest_alloc-alloc.ensures (sym (plan_found t judged_0 timely (sym fits ∙ c.if-not-token_fits.false)))
