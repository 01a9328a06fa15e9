-- `judge_plan_lent` is right because it asks the definition's tests in the definition's order.
use Prim.Native.Nat.{◌≤◌, min}
use mathlib.Core.Path.{◌≡◌, sym, ◌∙◌}
use mathlib.Core.Bool.{true, false, ◌&&◌}
use native.Mathlib.Omega.{arith}
use Rattle.std.proofs.lemmas.Result.{err_from_is_err_and}
use Rattle.units.specs.Places.{at, sum_below}
use Rattle.units.specs.Refusals.{refusal_number}
use Rattle.units.proofs.RefusalLaws.{refused_is_not}
use Rattle.units.proofs.JudgingLaws.{true_and, failed}
use Rattle.sets.specs.Rules.{numbers_allowed, walk_time_allowed}
use Rattle.sets.specs.Judged.{judged_numbers, judged_walk}
use Rattle.sets.proofs.SetLaws.{decides_count, numbers_passed, walk_passed, walk_refused}
use Rattle.sets.specs.Lent.{set_of}
use Rattle.sets.specs.declared.Set.{Set}
use Rattle.plans.specs.Lent.{alloc_of}
use Rattle.plans.specs.declared.Alloc.{Alloc}
use Rattle.plans.specs.Rules.{alloc_in_range}
use Rattle.plans.proofs.PlanLaws.{given_early, given_4, given_5, given_7, given_0}
use Rattle.plans.proofs.judge_plan_lent.Goals as goal

few : (t : Set) → judged_numbers t ≡ 0 → t.n ≤ 128
few t passed = ((decides_count t).0 (numbers_passed t passed).0).1

walk : (t : Set) → judged_numbers t ≡ 0 → min t.n 128 ≡ t.n
walk t passed = let n = few t passed in omega arith

pub returns-in_err-judge_numbers : goal.returns-in_err-judge_numbers
returns-in_err-judge_numbers c =
    let lent : Set = let args = c.args in set_of args.h args.n args.w.now args.c.now args.d.now args.p.now in
    let alloc : Alloc = alloc_of c.args.s.now in
    let said : refusal_number c.in_err-judge_numbers.field-0.0 ≡ judged_numbers lent = c.in_err-judge_numbers.ensures in
    let p = err_from_is_err_and c.from_residual.result c.from_residual.ensures.1 in
    rw (p.1, p.2) (said ∙ sym (given_early lent alloc (λ none. refused_is_not _ (said ∙ none))))

pub alloc_in_range-requires : goal.alloc_in_range-requires
alloc_in_range-requires c =
    let lent : Set = let args = c.args in set_of args.h args.n args.w.now args.c.now args.d.now args.p.now in
    few lent (sym c.in_ok-judge_numbers.ensures)

pub returns-then-not-alloc_in_range : goal.returns-then-not-alloc_in_range
returns-then-not-alloc_in_range c =
    let lent : Set = let args = c.args in set_of args.h args.n args.w.now args.c.now args.d.now args.p.now in
    let alloc : Alloc = alloc_of c.args.s.now in
    let passed = numbers_passed lent (sym c.in_ok-judge_numbers.ensures) in
    let out : alloc_in_range lent (at c.args.s.now) ≡ false = sym c.alloc_in_range.ensures ∙ c.if-not-alloc_in_range.true in
    sym (given_4 lent alloc passed.0 (rw (passed.1, out)))

pub returns-in_err-judge_walk : goal.returns-in_err-judge_walk
returns-in_err-judge_walk c =
    let lent : Set = let args = c.args in set_of args.h args.n args.w.now args.c.now args.d.now args.p.now in
    let alloc : Alloc = alloc_of c.args.s.now in
    let early : judged_numbers lent ≡ 0 = sym c.in_ok-judge_numbers.ensures in
    let passed = numbers_passed lent early in
    let in_range : (numbers_allowed lent && alloc_in_range lent (at c.args.s.now)) ≡ true = true_and _ _ passed.1 (sym c.alloc_in_range.ensures ∙ c.if-not-alloc_in_range.false) in
    let said : refusal_number c.in_err-judge_walk.field-0.0 ≡ judged_walk (sum_below (min c.args.n 128) (at c.args.w.now)) c.args.h.ttrt = c.in_err-judge_walk.ensures in
    let out = walk_refused (sum_below (min c.args.n 128) (at c.args.w.now)) c.args.h.ttrt (λ none. refused_is_not _ (said ∙ none)) in
    let late : walk_time_allowed lent ≡ false = rw (walk lent early) at out in
    let p = err_from_is_err_and c.from_residual-in_err-judge_walk.result c.from_residual-in_err-judge_walk.ensures.1 in
    rw (p.1, p.2) (said ∙ failed _ _ _ out ∙ sym (given_5 lent alloc passed.0 in_range late))

pub rules_fit-requires : goal.rules_fit-requires
rules_fit-requires c =
    let lent : Set = let args = c.args in set_of args.h args.n args.w.now args.c.now args.d.now args.p.now in
    few lent (sym c.in_ok-judge_numbers.ensures)

pub returns-then-not-rules_fit : goal.returns-then-not-rules_fit
returns-then-not-rules_fit c =
    let lent : Set = let args = c.args in set_of args.h args.n args.w.now args.c.now args.d.now args.p.now in
    let alloc : Alloc = alloc_of c.args.s.now in
    let early : judged_numbers lent ≡ 0 = sym c.in_ok-judge_numbers.ensures in
    let passed = numbers_passed lent early in
    let in_range : (numbers_allowed lent && alloc_in_range lent (at c.args.s.now)) ≡ true = true_and _ _ passed.1 (sym c.alloc_in_range.ensures ∙ c.if-not-alloc_in_range.false) in
    let late : walk_time_allowed lent ≡ true = rw (walk lent early) at (walk_passed (sum_below (min c.args.n 128) (at c.args.w.now)) c.args.h.ttrt (sym c.in_ok-judge_walk.ensures)) in
    sym (given_7 lent alloc passed.0 in_range late (sym (c.rules_fit.ensures _) ∙ c.if-not-rules_fit.true))

pub returns : goal.returns
returns c =
    let lent : Set = let args = c.args in set_of args.h args.n args.w.now args.c.now args.d.now args.p.now in
    let alloc : Alloc = alloc_of c.args.s.now in
    let early : judged_numbers lent ≡ 0 = sym c.in_ok-judge_numbers.ensures in
    let passed = numbers_passed lent early in
    let in_range : (numbers_allowed lent && alloc_in_range lent (at c.args.s.now)) ≡ true = true_and _ _ passed.1 (sym c.alloc_in_range.ensures ∙ c.if-not-alloc_in_range.false) in
    let late : walk_time_allowed lent ≡ true = rw (walk lent early) at (walk_passed (sum_below (min c.args.n 128) (at c.args.w.now)) c.args.h.ttrt (sym c.in_ok-judge_walk.ensures)) in
    sym (given_0 lent alloc passed.0 in_range late (sym (c.rules_fit.ensures _) ∙ c.if-not-rules_fit.false))
