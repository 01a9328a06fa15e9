-- `plan_of` is right because a refusal of reading comes before one of planning.
use mathlib.Core.Path.{refl}
use Rattle.sheets.proofs.ReadLaws.{then_rest, then_keeps}
use Rattle.command_plan.proofs.PlanSheetLaws.{plan_made}
use Rattle.command_plan.proofs.plan_of.Goals as goal

pub returns-then-number-ne-ACCEPTED : goal.returns-then-number-ne-ACCEPTED
returns-then-number-ne-ACCEPTED c =
    plan_made _ _ _ _ refl c.plan-planned.ensures (then_keeps _ _ c.if-number-ne-ACCEPTED.true)

pub returns : goal.returns
returns c =
    plan_made _ _ _ _ refl c.plan-planned.ensures (then_rest _ _ c.if-number-ne-ACCEPTED.false)
