-- `inspect_log_of` is right because it asks in the order of the definition: the plan sheet, the log, whether their plans differ, and the finding.
use mathlib.Core.Path.{sym, ap, ◌∙◌}
use Rattle.logs.specs.Reading.{handed_from}
use Rattle.inspection.specs.Records.{inspected_all}
use Rattle.inspection.specs.Findings.{finding_of}
use Rattle.inspection.specs.declared.Inspection.{Inspection}
use Rattle.plan_inspections.specs.PlanFindings.{visits_in, with_visits}
use Rattle.plan_inspections.proofs.FindingLaws.{plan_refused_lem, log_refused, another_plan, same_plan}
use Rattle.plan_inspections.proofs.inspect_log_of.Goals as goal

pub returns-then-sheet-ne-ACCEPTED : goal.returns-then-sheet-ne-ACCEPTED
returns-then-sheet-ne-ACCEPTED c =
    c.not_inspected.ensures ∙ plan_refused_lem _ _ c.read_plan-sheet.ensures c.if-sheet-ne-ACCEPTED.true

pub returns-then-read-ne-ACCEPTED : goal.returns-then-read-ne-ACCEPTED
returns-then-read-ne-ACCEPTED c =
    c.not_inspected-then-read-ne-ACCEPTED.ensures ∙ log_refused _ _ c.read_plan-sheet.ensures c.read_log-read.ensures c.if-sheet-ne-ACCEPTED.false c.if-read-ne-ACCEPTED.true

pub returns-then-not-same_plan : goal.returns-then-not-same_plan
returns-then-not-same_plan c =
    c.not_inspected-then-not-same_plan.ensures
    ∙ another_plan _ _ c.read_plan-sheet.ensures c.read_log-read.ensures c.if-sheet-ne-ACCEPTED.false c.if-read-ne-ACCEPTED.false
    (sym c.same_plan.ensures ∙ c.if-not-same_plan.true)

pub returns : goal.returns
returns c =
    let t = c.read_log-read.result.set in
    let es = handed_from c.read_log-read.result.records c.args.log.now c.read_log-read.result.first in
    c.found_with.ensures t.c t.d t.p
    ∙ ap (λ (i : Inspection). with_visits (finding_of (inspected_all i t c.read_log-read.result.alloc es) c.read_log-read.result.records) (visits_in es)) c.begin-begun.ensures
    ∙ same_plan _ _ c.read_plan-sheet.ensures c.read_log-read.ensures c.if-sheet-ne-ACCEPTED.false c.if-read-ne-ACCEPTED.false
    (sym c.same_plan.ensures ∙ c.if-not-same_plan.false)
