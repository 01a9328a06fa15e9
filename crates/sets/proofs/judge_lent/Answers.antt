-- `judge_lent` is right because what the count and the numbers are refused with comes first in the definition, and then the walk time.
use Prim.Native.Nat.{min}
use mathlib.Core.Path.{◌≡◌, sym, ◌∙◌}
use native.Mathlib.Omega.{arith}
use Rattle.std.proofs.lemmas.Result.{err_from_is_err_and}
use Rattle.units.specs.Refusals.{refusal_number}
use Rattle.units.proofs.RefusalLaws.{refused_is_not}
use Rattle.sets.specs.declared.Set.{Set}
use Rattle.sets.specs.Lent.{set_of}
use Rattle.sets.specs.Judged.{judged_numbers}
use Rattle.sets.proofs.SetLaws.{decides_count, judged_early, judged_late, numbers_passed}
use Rattle.sets.proofs.judge_lent.Goals as goal

pub returns-in_err-judge_numbers : goal.returns-in_err-judge_numbers
returns-in_err-judge_numbers c =
    let lent : Set = let args = c.args in set_of args.h args.n args.w.now args.c.now args.d.now args.p.now in
    let said : refusal_number c.in_err-judge_numbers.field-0.0 ≡ judged_numbers lent = c.in_err-judge_numbers.ensures in
    let p = err_from_is_err_and c.from_residual.result c.from_residual.ensures.1 in
    rw (p.1, p.2) (said ∙ sym (judged_early lent (λ none. refused_is_not _ (said ∙ none))))

pub returns : goal.returns
returns c =
    let lent : Set = let args = c.args in set_of args.h args.n args.w.now args.c.now args.d.now args.p.now in
    let passed : judged_numbers lent ≡ 0 = sym c.in_ok-judge_numbers.ensures in
    let few : min lent.n 128 ≡ lent.n = let counted = (decides_count lent).0 (numbers_passed lent passed).0 in omega (arith, counted.1) in
    c.judge_walk.ensures ∙ rw few (sym (judged_late lent passed))
