-- `sound_lent` is right because a set or allocation that would be refused makes the first test fail, and the others follow it.
use Prim.Native.Nat.{◌≤◌, min}
use mathlib.Core.Path.{◌≡◌, refl, sym, ◌∙◌}
use mathlib.Core.Bool.{Bool, true, false, ◌&&◌}
use mathlib.Core.List.{[], ◌∷◌}
use native.Mathlib.Omega.{arith}
use borrow.Author.Tests.{eq-eqb, ne_eqb}
use lib.Dec.{eqb}
use Rattle.units.specs.Judging.{all_hold}
use Rattle.units.proofs.RefusalLaws.{err_some, not_err_none}
use Rattle.plans.specs.Planned.{judged_plan}
use Rattle.plans.proofs.PlanLaws.{given_none}
use Rattle.rings.specs.Sound.{is_sound}
use Rattle.rings.proofs.soundness.sound_lent.Goals as goal

-- the tests in the code's brackets and in the list's
joined : (a b c d e f g : Bool) → ((((a && b) && c) && (d && e)) && (f && g)) ≡ all_hold (true ∷ a ∷ b ∷ c ∷ d ∷ e ∷ f ∷ g ∷ [])
unfolding all_hold
joined false b c d e f g = refl
joined true false c d e f g = refl
joined true true false d e f g = refl
joined true true true false e f g = refl
joined true true true true false f g = refl
joined true true true true true false g = refl
joined true true true true true true false = refl
joined true true true true true true true = refl

pub returns-then-is_err : goal.returns-then-is_err
unfolding is_sound all_hold
returns-then-is_err c =
    let r = c.args.ring.now in
    let refused : eqb (judged_plan r.set r.alloc) 0 ≡ false = ne_eqb (judged_plan r.set r.alloc) 0 (λ e. err_some c.judge_plan_lent-judged.result (sym c.is_err.ensures.value ∙ c.if-is_err.true) (c.judge_plan_lent-judged.ensures ∙ e)) in
    rw refused refl

pub returns : goal.returns
unfolding is_sound
returns c =
    let r = c.args.ring.now in
    let accepted : judged_plan r.set r.alloc ≡ 0 = sym c.judge_plan_lent-judged.ensures ∙ not_err_none c.judge_plan_lent-judged.result (sym c.is_err.ensures.value ∙ c.if-is_err.false) in
    let few : r.set.n ≤ 128 = ((given_none r.set r.alloc).0 (accepted)).0.1 in
    let same : min r.set.n 128 ≡ r.set.n = omega (arith, few) in
    let passed : eqb (judged_plan r.set r.alloc) 0 ≡ true = eq-eqb (judged_plan r.set r.alloc) 0 accepted in
    rw (
      c.timers_sound-timers.ensures,
      c.each_within-shares.ensures,
      c.messages_sound-messages.ensures,
      c.counts_sound-counts.ensures,
      same,
      passed,
    ) (joined _ _ _ _ _ _ _)

pub timers_sound-timers-requires : goal.timers_sound-timers-requires
timers_sound-timers-requires c =
    let r = c.args.ring.now in
    let accepted : judged_plan r.set r.alloc ≡ 0 = sym c.judge_plan_lent-judged.ensures ∙ not_err_none c.judge_plan_lent-judged.result (sym c.is_err.ensures.value ∙ c.if-is_err.false) in
    let few : r.set.n ≤ 128 = ((given_none r.set r.alloc).0 (accepted)).0.1 in
    few
