-- `read_start` is right because it reads and judges the plan where the walk came by all its fields, and else hands out what the walk says.
use mathlib.Core.Path.{◌≡◌, refl, sym, ap, subst, ◌∙◌}
use mathlib.Core.Bool.{true, false}
use Rattle.sets.specs.Judged.{blank_set}
use Rattle.plans.specs.Planned.{blank_alloc}
use Rattle.field_reader.specs.Scanned.{scanned}
use Rattle.field_reader.specs.declared.Scanned.{Scanned}
use Rattle.sheets.specs.Bounds.{PassedFits}
use Rattle.sheets.specs.Reading.{set_of, alloc_of, set_in, alloc_in, judged_sheet, fields_answer, plan_passed, plan_start}
use Rattle.sheets.proofs.ReadingLaws.{start_fits}
use Rattle.sheets.proofs.read_start.Goals as goal

pub returns-then-not-plan_passed : goal.returns-then-not-plan_passed
unfolding plan_start
returns-then-not-plan_passed c =
    let bs = c.args.sheet.now in
    let said = c.scan_sheet-scanned.ensures in
    let not_yet : plan_passed (scanned true bs).passed ≡ false =
    ap (λ (r : Scanned). plan_passed r.passed) (sym said) ∙ sym c.plan_passed.ensures ∙ c.if-not-plan_passed.true in
    rw (c.blank_set-set.ensures, c.blank_alloc-alloc.ensures, not_yet) (ap (λ (r : Scanned). record { set = blank_set; alloc = blank_alloc; passed = false; number = r.number; at = r.at }) said)

pub read_fields-read-requires : goal.read_fields-read-requires
read_fields-read-requires c =
    let came_by : plan_passed (scanned true c.args.sheet.now).passed ≡ true = ap (λ (r : Scanned). plan_passed r.passed) (sym c.scan_sheet-scanned.ensures) ∙ sym c.plan_passed.ensures ∙ c.if-not-plan_passed.false in
    let fits : PassedFits c.args.sheet.now c.scan_sheet-scanned.result.passed = let bs = c.args.sheet.now in
    subst (λ (r : Scanned). PassedFits bs r.passed) (sym c.scan_sheet-scanned.ensures) (start_fits true bs (came_by)) in
    fits

pub returns : goal.returns
unfolding plan_start fields_answer judged_sheet
returns c =
    let came_by : plan_passed (scanned true c.args.sheet.now).passed ≡ true = ap (λ (r : Scanned). plan_passed r.passed) (sym c.scan_sheet-scanned.ensures) ∙ sym c.plan_passed.ensures ∙ c.if-not-plan_passed.false in
    let bs = c.args.sheet.now in
    let said = c.scan_sheet-scanned.ensures in
    let read : c.read_fields-read.result ≡ fields_answer true true (set_in true bs) (alloc_in true bs) =
    c.read_fields-read.ensures ∙ ap (λ (r : Scanned). fields_answer true true (set_of bs r.passed) (alloc_of bs r.passed)) said in
    let place : c.scan_sheet-scanned.result.at ≡ (scanned true bs).at = ap (λ (r : Scanned). r.at) said in
    rw (read, place, came_by) refl
