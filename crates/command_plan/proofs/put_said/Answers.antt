-- `put_said` is right because it puts the refusal or the plan by the number that it answers.
use mathlib.Core.Path.{ap}
use native.Mathlib.Omega.{arith}
use Rattle.sheets.specs.declared.ReadPlan.{ReadPlan}
use Rattle.text.proofs.TextLaws.{refused_short}
use Rattle.text.proofs.PageLaws.{puts, puts_as}
use Rattle.command_plan.proofs.PlanTextLaws.{plan_refused_lem, plan_accepted, plan_few}
use Rattle.command_plan.proofs.put_said.Goals as goal

pub returns-then-number-ne-ACCEPTED-clause-text : goal.returns-then-number-ne-ACCEPTED-clause-text
returns-then-number-ne-ACCEPTED-clause-text c =
    puts_as (puts c.put_refused.ensures (omega (arith, c.requires)) (refused_short _)) (plan_refused_lem _ _ c.plan_of-number.ensures c.if-number-ne-ACCEPTED.true) (omega arith)

pub returns-then-number-ne-ACCEPTED-clause-number : goal.returns-then-number-ne-ACCEPTED-clause-number
returns-then-number-ne-ACCEPTED-clause-number c =
    ap (λ (p : ReadPlan). p.number) c.plan_of-number.ensures

pub put_plan-requires : goal.put_plan-requires
put_plan-requires c =
    (plan_few _ _ c.plan_of-number.ensures c.if-number-ne-ACCEPTED.false, c.requires)

pub returns-clause-text : goal.returns-clause-text
returns-clause-text c =
    puts_as c.put_plan.ensures (plan_accepted _ _ c.plan_of-number.ensures c.if-number-ne-ACCEPTED.false) (omega arith)

pub returns-clause-number : goal.returns-clause-number
returns-clause-number c =
    ap (λ (p : ReadPlan). p.number) c.plan_of-number.ensures
