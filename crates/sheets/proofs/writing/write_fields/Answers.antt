-- `write_fields` is right because it keeps the number of the judgement, then gives 14, and else lays the fields from the first byte on.
use Prim.Native.Nat.{◌≤◌, ◌<◌}
use mathlib.Core.Path.{◌≡◌, sym, ◌∙◌}
use mathlib.Core.Logic.{◌≢◌}
use native.Mathlib.Omega.{arith}
use lib.ListN.{length}
use Rattle.fields.proofs.FieldLaws.{allocations_few}
use Rattle.sheets.specs.Layout.{sheet_length}
use Rattle.sheets.specs.Reading.{judged_sheet}
use Rattle.sheets.proofs.WritingLaws.{head_small, number_judged, number_short, fields_refused, fields_all}
use Rattle.sheets.proofs.ReadLaws.{judged_kept}
use Rattle.sheets.proofs.writing.write_fields.Goals as goal

pub returns-then-number-ne-ACCEPTED : goal.returns-then-number-ne-ACCEPTED
returns-then-number-ne-ACCEPTED c =
    let said = (c.answer_number-number.ensures ∙ c.judge_sheet.ensures) in
    let refused : judged_sheet c.args.plan c.args.t.now c.args.a.now ≢ 0 = λ e. c.if-number-ne-ACCEPTED.true (said ∙ e) in
    rw (c.refused.ensures, said)
    (fields_refused c.args.plan c.args.t.now c.args.a.now c.args.out.now _ refused (number_judged c.args.plan c.args.t.now c.args.a.now c.args.out.now refused))

pub fields_length-length-requires : goal.fields_length-length-requires
fields_length-length-requires c =
    let judged_0 : judged_sheet c.args.plan c.args.t.now c.args.a.now ≡ 0 = sym (c.answer_number-number.ensures ∙ c.judge_sheet.ensures) ∙ c.if-number-ne-ACCEPTED.false in
    let few : c.args.t.now.n ≤ 128 = (judged_kept c.args.plan c.args.t.now c.args.a.now (judged_0)).count.1 in
    few

pub overflow_add-length : goal.overflow_add-length
overflow_add-length c =
    let judged_0 : judged_sheet c.args.plan c.args.t.now c.args.a.now ≡ 0 = sym (c.answer_number-number.ensures ∙ c.judge_sheet.ensures) ∙ c.if-number-ne-ACCEPTED.false in
    let few : c.args.t.now.n ≤ 128 = (judged_kept c.args.plan c.args.t.now c.args.a.now (judged_0)).count.1 in
    let said = c.fields_length-length.ensures in
    let n = few in
    omega (arith, said, head_small c.args.t.now.head 3, allocations_few c.args.plan c.args.t.now.n)

pub returns-then-out-length : goal.returns-then-out-length
returns-then-out-length c =
    let judged_0 : judged_sheet c.args.plan c.args.t.now c.args.a.now ≡ 0 = sym (c.answer_number-number.ensures ∙ c.judge_sheet.ensures) ∙ c.if-number-ne-ACCEPTED.false in
    let said = c.fields_length-length.ensures in
    let short : length c.args.out.now < sheet_length c.args.plan c.args.t.now = omega arith in
    rw c.refused-then-out-length.ensures
    (fields_refused c.args.plan c.args.t.now c.args.a.now c.args.out.now 14 (omega arith) (number_short c.args.plan c.args.t.now c.args.a.now c.args.out.now judged_0 short))

pub put_fields-requires : goal.put_fields-requires
put_fields-requires c =
    let judged_0 : judged_sheet c.args.plan c.args.t.now c.args.a.now ≡ 0 = sym (c.answer_number-number.ensures ∙ c.judge_sheet.ensures) ∙ c.if-number-ne-ACCEPTED.false in
    let few : c.args.t.now.n ≤ 128 = (judged_kept c.args.plan c.args.t.now c.args.a.now (judged_0)).count.1 in
    let said = c.fields_length-length.ensures in
    (few, omega arith)

pub returns : goal.returns
returns c =
    let judged_0 : judged_sheet c.args.plan c.args.t.now c.args.a.now ≡ 0 = sym (c.answer_number-number.ensures ∙ c.judge_sheet.ensures) ∙ c.if-number-ne-ACCEPTED.false in
    let said = c.fields_length-length.ensures in
    let long : sheet_length c.args.plan c.args.t.now ≤ length c.args.out.now = omega arith in
    rw (c.put_fields.ensures, said)
    (fields_all c.args.plan c.args.t.now c.args.a.now c.args.out.now judged_0 long)
