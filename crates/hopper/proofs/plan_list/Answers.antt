-- `plan_list` is right because it goes by the number of the request: refused, the blank plan; else the planner's answer to the list's set.
use Prim.Native.Nat.{ℕ}
use mathlib.Core.Path.{sym, ap, ◌∙◌}
use Rattle.plans.specs.Planned.{blank_alloc}
use Rattle.sheets.specs.declared.ReadRequest.{ReadRequest}
use Rattle.hopper.proofs.RequestLaws.{request_number, request_set, plan_refused_lem, plan_given}
use Rattle.hopper.proofs.plan_list.Goals as goal

pub returns-then-request-ne-ACCEPTED : goal.returns-then-request-ne-ACCEPTED
returns-then-request-ne-ACCEPTED c =
    let number = ap (λ (r : ReadRequest). r.number) c.request_of-request.ensures ∙ request_number _ in
    rw c.blank_alloc.ensures
    (ap (λ (k : ℕ). record { alloc = blank_alloc; number = k }) number ∙ sym (plan_refused_lem _ (λ e. c.if-request-ne-ACCEPTED.true (number ∙ e))))

pub returns : goal.returns
returns c =
    let number = ap (λ (r : ReadRequest). r.number) c.request_of-request.ensures ∙ request_number _ in
    let none = sym number ∙ c.if-request-ne-ACCEPTED.false in
    let set = ap (λ (r : ReadRequest). r.set) c.request_of-request.ensures ∙ request_set _ none in
    c.plan.ensures ∙ rw set (sym (plan_given _ none))
