-- `plan_number` is right because it keeps the number of the walk, and else judges what the fields hold.
use mathlib.Core.Path.{◌≡◌, sym, ap, subst, ◌∙◌}
use Rattle.plans.specs.Planned.{judged_plan}
use Rattle.field_reader.specs.Scanned.{scanned}
use Rattle.field_reader.specs.declared.Scanned.{Scanned}
use Rattle.sheets.specs.Bounds.{PassedFits}
use Rattle.sheets.specs.Reading.{set_of, alloc_of, judged_sheet}
use Rattle.sheets.proofs.ReadingLaws.{scanned_fits, number_misshapen, number_judged}
use mathlib.Core.Bool.{true}
use Rattle.sheets.proofs.plan_number.Goals as goal

pub returns-then-scanned-ne-ACCEPTED : goal.returns-then-scanned-ne-ACCEPTED
returns-then-scanned-ne-ACCEPTED c =
    let bs = c.args.sheet.now in
    let number : c.scan_sheet-scanned.result.number ≡ (scanned true bs).number = ap (λ (r : Scanned). r.number) c.scan_sheet-scanned.ensures in
    number ∙ number_misshapen true bs (λ e. c.if-scanned-ne-ACCEPTED.true (number ∙ e))

pub judge_fields-requires : goal.judge_fields-requires
judge_fields-requires c =
    let walk_0 : (scanned true c.args.sheet.now).number ≡ 0 = ap (λ (r : Scanned). r.number) (sym c.scan_sheet-scanned.ensures) ∙ c.if-scanned-ne-ACCEPTED.false in
    let bs = c.args.sheet.now in
    subst (λ (r : Scanned). PassedFits bs r.passed) (sym c.scan_sheet-scanned.ensures) (scanned_fits true bs walk_0)

pub returns : goal.returns
unfolding judged_sheet
returns c =
    let walk_0 : (scanned true c.args.sheet.now).number ≡ 0 = ap (λ (r : Scanned). r.number) (sym c.scan_sheet-scanned.ensures) ∙ c.if-scanned-ne-ACCEPTED.false in
    let bs = c.args.sheet.now in
    c.answer_number.ensures ∙ c.judge_fields.ensures ∙ ap (λ (r : Scanned). judged_plan (set_of bs r.passed) (alloc_of bs r.passed)) c.scan_sheet-scanned.ensures ∙ number_judged true bs walk_0
