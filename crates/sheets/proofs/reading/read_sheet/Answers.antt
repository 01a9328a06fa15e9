-- `read_sheet` is right because it keeps the number of the walk, and else hands out what the fields hold.
use mathlib.Core.Path.{◌≡◌, sym, ap, subst, ◌∙◌}
use Rattle.field_reader.specs.Scanned.{scanned}
use Rattle.field_reader.specs.declared.Scanned.{Scanned}
use Rattle.sheets.specs.Bounds.{PassedFits}
use Rattle.sheets.specs.Reading.{set_of, alloc_of, fields_answer}
use Rattle.sheets.proofs.ReadingLaws.{scanned_fits, kept_misshapen, kept_read}
use Rattle.sheets.proofs.reading.read_sheet.Goals as goal

pub returns-then-scanned-ne-ACCEPTED : goal.returns-then-scanned-ne-ACCEPTED
returns-then-scanned-ne-ACCEPTED c =
    let args = c.args in
    let number : c.scan_sheet-scanned.result.number ≡ (scanned args.plan args.bs.now).number = ap (λ (r : Scanned). r.number) c.scan_sheet-scanned.ensures in
    c.refused.ensures ∙ rw number (sym (kept_misshapen args.plan args.bs.now args.kept (λ e. c.if-scanned-ne-ACCEPTED.true (number ∙ e))))

pub read_fields-requires : goal.read_fields-requires
read_fields-requires c =
    let walk_0 : let args = c.args in (scanned args.plan args.bs.now).number ≡ 0 = ap (λ (r : Scanned). r.number) (sym c.scan_sheet-scanned.ensures) ∙ c.if-scanned-ne-ACCEPTED.false in
    let args = c.args in
    subst (λ (r : Scanned). PassedFits args.bs.now r.passed) (sym c.scan_sheet-scanned.ensures) (scanned_fits args.plan args.bs.now walk_0)

pub returns : goal.returns
returns c =
    let walk_0 : let args = c.args in (scanned args.plan args.bs.now).number ≡ 0 = ap (λ (r : Scanned). r.number) (sym c.scan_sheet-scanned.ensures) ∙ c.if-scanned-ne-ACCEPTED.false in
    let args = c.args in
    let bs = args.bs.now in
    c.read_fields.ensures
    ∙ ap (λ (r : Scanned). fields_answer args.kept args.plan (set_of bs r.passed) (alloc_of bs r.passed)) c.scan_sheet-scanned.ensures
    ∙ kept_read args.plan bs args.kept walk_0
