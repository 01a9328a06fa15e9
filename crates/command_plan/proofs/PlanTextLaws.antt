-- The laws of what `plan` prints, for the proofs of this layer. No rule stands here.
use Prim.Native.Nat.{ℕ, zero, suc, ◌≤◌}
use mathlib.Core.Path.{◌≡◌, refl, sym, ap, subst, ◌∙◌}
use mathlib.Core.List.{List}
use mathlib.Core.Logic.{◌≢◌}
use Rattle.plans.proofs.Promised.{promised as of-plans}
use Rattle.sheets.specs.Reading.{then_number}
use Rattle.sheets.proofs.ReadLaws.{then_none}
use Rattle.sheets.specs.declared.ReadRequest.{ReadRequest}
use Rattle.sheets.specs.declared.ReadPlan.{ReadPlan}
use Rattle.text.specs.Text.{text_or, refused_line, Says}
use Rattle.text.specs.declared.Said.{Said}
use Rattle.text.proofs.TextLaws.{text_accepted, text_refused}
use Rattle.command_plan.specs.PlanText.{plan_lines, request_text}
use Rattle.command_plan.specs.PlanSheet.{planning_number, plan_of}

-- the first of two refusals
text_then : (k j : ℕ) (text : List ℕ) → text_or k (text_or j text) ≡ text_or (then_number k j) text
unfolding text_or then_number
text_then zero j text = refl
text_then (suc k) j text = refl

-- the text goes by the plan's number
pub plan_said : (q : ReadRequest) → request_text q ≡ text_or (plan_of q).number (plan_lines (plan_of q).set (plan_of q).alloc)
plan_said q = text_then q.number _ _

module _ (p : ReadPlan) (q : ReadRequest) (e : p ≡ plan_of q) where
  said : text_or p.number (plan_lines p.set p.alloc) ≡ request_text q
  said = ap (λ (x : ReadPlan). text_or x.number (plan_lines x.set x.alloc)) e ∙ sym (plan_said q)

  pub plan_refused_lem : p.number ≢ 0 → refused_line p.number ≡ request_text q
  plan_refused_lem k = sym (text_refused p.number _ k) ∙ said

  pub plan_accepted : p.number ≡ 0 → plan_lines p.set p.alloc ≡ request_text q
  plan_accepted k = sym (text_accepted p.number _ k) ∙ said

  -- a set that was planned has at most 128 stations
  pub plan_few : p.number ≡ 0 → p.set.n ≤ 128
  plan_few k =
      let number : (plan_of q).number ≡ 0 = sym (ap (λ (x : ReadPlan). x.number) e) ∙ k in
      let kept = of-plans.kept q.set (then_none q.number _ number).1 in
      rw e ((of-plans.given_none q.set _).0 kept.judged).0.1

-- the text of the request that was read is that of the request
pub read_says : (q r : ReadRequest) (before after : List ℕ) (s : Said) → q ≡ r
    → Says (request_text q) (planning_number q) before after s → Says (request_text r) (planning_number r) before after s
read_says q r before after s e h = subst (λ (x : ReadRequest). Says (request_text x) (planning_number x) before after s) e h
