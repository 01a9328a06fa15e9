-- `plan_sheet` is right because it writes nothing where reading or planning refuses, and else the plan.
use mathlib.Core.Path.{sym, ap, ◌∙◌}
use Rattle.sheets.specs.declared.ReadPlan.{ReadPlan}
use Rattle.command_plan.specs.PlanSheet.{plan_of}
use Rattle.command_plan.proofs.PlanSheetLaws.{wrote_none, wrote_plan}
use Rattle.command_plan.proofs.plan_sheet.Goals as goal

pub returns-then-plan-ne-ACCEPTED : goal.returns-then-plan-ne-ACCEPTED
returns-then-plan-ne-ACCEPTED c =
    wrote_none _ _ _ (sym (ap (λ (p : ReadPlan). p.number) (c.plan_of-plan.ensures ∙ ap plan_of c.read_request-request.ensures))) c.if-plan-ne-ACCEPTED.true

pub returns : goal.returns
returns c =
    wrote_plan _ _ _ _ _ (c.plan_of-plan.ensures ∙ ap plan_of c.read_request-request.ensures) c.if-plan-ne-ACCEPTED.false c.write_plan.ensures c.write_plan.auto.out
