-- `put_plan` is right because it puts the refusal of reading, or the text of the plan.
use native.Mathlib.Omega.{arith}
use Rattle.sheet_text_rules.proofs.ShowLaws.{plan_few, shown_plan_refused, shown_plan}
use Rattle.text.proofs.TextLaws.{refused_short}
use Rattle.text.proofs.PageLaws.{puts, puts_as}
use Rattle.command_show.proofs.put_plan.Goals as goal

pub returns-then-plan-ne-ACCEPTED-clause-text : goal.returns-then-plan-ne-ACCEPTED-clause-text
returns-then-plan-ne-ACCEPTED-clause-text c =
    puts_as (puts c.put_refused.ensures (omega (arith, c.requires)) (refused_short _)) (shown_plan_refused _ _ c.read_plan-plan.ensures c.if-plan-ne-ACCEPTED.true) (omega arith)

pub put_sheet-requires : goal.put_sheet-requires
put_sheet-requires c =
    (plan_few _ _ c.read_plan-plan.ensures, c.requires)

pub returns-clause-text : goal.returns-clause-text
returns-clause-text c =
    puts_as c.put_sheet.ensures (shown_plan _ _ c.read_plan-plan.ensures c.if-plan-ne-ACCEPTED.false) (omega arith)
