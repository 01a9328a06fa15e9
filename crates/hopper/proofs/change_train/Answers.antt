-- `change_train` is right because it goes by the number of the list's plan: refused, the train as it was; else the list with that plan.
use Prim.Native.Nat.{ℕ}
use mathlib.Core.Path.{sym, ap, ◌∙◌}
use Rattle.plans.specs.declared.Planned.{Planned}
use Rattle.hopper.proofs.TrainLaws.{change_refused, change_given}
use Rattle.hopper.proofs.change_train.Goals as goal

pub returns-then-refusal-ne-ACCEPTED : goal.returns-then-refusal-ne-ACCEPTED
returns-then-refusal-ne-ACCEPTED c =
    let number = ap (λ (p : Planned). p.number) c.plan_list-planned.ensures in
    let t = c.args.train in
    let l = c.args.list in
    ap (λ (k : ℕ). record { train = t; number = k }) number ∙ sym (change_refused _ t l (λ e. c.if-refusal-ne-ACCEPTED.true (number ∙ e)))

pub returns : goal.returns
returns c =
    let planned = c.plan_list-planned.ensures in
    let none = sym (ap (λ (p : Planned). p.number) planned) ∙ c.if-refusal-ne-ACCEPTED.false in
    rw planned (sym (change_given _ _ _ none))
