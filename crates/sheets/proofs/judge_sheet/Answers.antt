-- `judge_sheet` is right because it asks the judgement that the definition names.
use mathlib.Core.Path.{sym, ap, ◌∙◌}
use mathlib.Core.Bool.{Bool}
use Rattle.sheets.specs.Reading.{judged_sheet}
use Rattle.sheets.proofs.judge_sheet.Goals as goal

pub returns-then-plan : goal.returns-then-plan
unfolding judged_sheet
returns-then-plan c =
    c.judge_plan_lent.ensures ∙ ap (λ (plan : Bool). judged_sheet plan c.args.t.now c.args.a.now) (sym c.if-plan.true)

pub returns-else-plan : goal.returns-else-plan
unfolding judged_sheet
returns-else-plan c =
    c.judge_lent.ensures ∙ ap (λ (plan : Bool). judged_sheet plan c.args.t.now c.args.a.now) (sym c.if-plan.false)
