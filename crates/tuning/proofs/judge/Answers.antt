-- `judge` is right because judging the count and the numbers at TTRT 1,000,000 gives 2 or 4 exactly if one is not allowed there, and then the mode is asked for.
use mathlib.Core.Path.{◌≡◌, sym, ap, ◌∙◌}
use mathlib.Core.Bool.{true, false, not}
use mathlib.Core.Logic.{◌≢◌, ⊎_elim}
use borrow.Author.Tests.{ne_eqb}
use Rattle.std.proofs.Common.{eq-eqb}
use Rattle.std.proofs.lemmas.Result.{err_from_is_err_and}
use Rattle.units.specs.Numbers.{most_ttrt, retired}
use Rattle.units.specs.Judging.{or_else}
use Rattle.units.specs.Refusals.{refusal_number}
use Rattle.units.proofs.JudgingLaws.{true_or_false, held, failed}
use Rattle.units.proofs.RefusalLaws.{refused_is_not}
use Rattle.sets.specs.Rules.{count_allowed, numbers_allowed}
use Rattle.sets.specs.Judged.{judged_numbers}
use Rattle.sets.specs.declared.Set.{Set}
use Rattle.sets.proofs.SetLaws.{numbers_passed}
use Rattle.plans.specs.Rules.{in_use}
use Rattle.tuning.specs.Tunings.{with_ttrt, judged_at_all}
use Rattle.tuning.proofs.judge.Goals as goal

module _ (t : Set) where
  -- 2 or 4 is given whatever TTRT is
  given_first : judged_numbers (with_ttrt t most_ttrt) ≢ 0 → judged_numbers (with_ttrt t most_ttrt) ≡ judged_at_all t
  unfolding judged_at_all
  given_first h =
      let u = with_ttrt t most_ttrt in
      ⊎_elim (λ (count : count_allowed u ≡ true).
      ⊎_elim (λ (numbers : numbers_allowed u ≡ true). absurd (h (held _ _ _ count ∙ held _ _ _ numbers)))
      (λ (numbers : numbers_allowed u ≡ false). held _ _ _ count ∙ failed _ _ _ numbers ∙ sym (held _ _ _ count ∙ failed _ _ _ numbers))
      (true_or_false (numbers_allowed u)))
      (λ (count : count_allowed u ≡ false). failed _ _ _ count ∙ sym (failed _ _ _ count))
      (true_or_false (count_allowed u))

  -- else the mode decides
  given_mode : judged_numbers (with_ttrt t most_ttrt) ≡ 0 → judged_at_all t ≡ or_else (in_use t) retired 0
  unfolding judged_at_all
  given_mode none =
      let passed = numbers_passed (with_ttrt t most_ttrt) none in
      held _ _ _ passed.0 ∙ held _ _ _ passed.1

pub returns-in_err-judge_numbers : goal.returns-in_err-judge_numbers
returns-in_err-judge_numbers c =
    let said : refusal_number c.in_err-judge_numbers.field-0.0 ≡ judged_numbers (with_ttrt c.args.t most_ttrt) = c.in_err-judge_numbers.ensures in
    let p = err_from_is_err_and c.from_residual.result c.from_residual.ensures.1 in
    rw (p.1, p.2) (said ∙ given_first c.args.t (λ none. refused_is_not _ (said ∙ none)))

pub returns-then-retired : goal.returns-then-retired
returns-then-retired c =
    sym (given_mode c.args.t (sym c.in_ok-judge_numbers.ensures) ∙ failed _ _ _ (ap not (eq-eqb _ _ c.if-retired.true)))

pub returns : goal.returns
returns c =
    sym (given_mode c.args.t (sym c.in_ok-judge_numbers.ensures) ∙ held _ _ _ (ap not (ne_eqb _ _ c.if-retired.false)))
