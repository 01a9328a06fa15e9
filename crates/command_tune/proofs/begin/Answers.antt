-- `begin` is right because its tests are the definition's, in its order.
use mathlib.Core.Path.{◌≡◌, sym, ap, ◌∙◌}
use mathlib.Core.Bool.{true, false}
use Rattle.field_reader.specs.Scanned.{scanned}
use Rattle.field_reader.specs.declared.Scanned.{Scanned}
use Rattle.sheets.specs.declared.ReadPlan.{ReadPlan}
use Rattle.tuning.specs.Tunings.{judged_at_all}
use Rattle.command_tune.specs.Tune.{is_range, requested, refused_with}
use Rattle.command_tune.proofs.TuneLaws.{ranged, by_scan, by_range, given_set, by_set, none_refused}
use native.Mathlib.Omega.{arith}
use Rattle.command_tune.proofs.begin.Goals as goal

pub returns-then-scanned-ne-ACCEPTED : goal.returns-then-scanned-ne-ACCEPTED
returns-then-scanned-ne-ACCEPTED c =
    let args = c.args in
    let is : c.scan_sheet-scanned.result.number ≡ (scanned false args.sheet.now).number = ap (λ (r : Scanned). r.number) c.scan_sheet-scanned.ensures in
    c.refused.ensures ∙ ap refused_with is ∙ by_scan args.sheet.now args.from args.to (λ e. c.if-scanned-ne-ACCEPTED.true (is ∙ e))

pub returns-then-not-is_range : goal.returns-then-not-is_range
returns-then-not-is_range c =
    let passed : (scanned false c.args.sheet.now).number ≡ 0 = rw c.scan_sheet-scanned.ensures at c.if-scanned-ne-ACCEPTED.false in
    let args = c.args in
    c.refused-then-not-is_range.ensures
    ∙ by_range args.sheet.now args.from args.to passed (sym c.is_range.ensures ∙ c.if-not-is_range.true)

pub returns-then-number-ne-ACCEPTED : goal.returns-then-number-ne-ACCEPTED
returns-then-number-ne-ACCEPTED c =
    let passed : (scanned false c.args.sheet.now).number ≡ 0 = rw c.scan_sheet-scanned.ensures at c.if-scanned-ne-ACCEPTED.false in
    let read : c.read_given.result.set ≡ requested c.args.sheet.now = let args = c.args in
    ap (λ (r : ReadPlan). r.set) c.read_given.ensures ∙ given_set args.sheet.now args.from args.to (passed) in
    let judged : c.answer_number-number.result ≡ judged_at_all (requested c.args.sheet.now) = c.answer_number-number.ensures ∙ c.judge.ensures ∙ ap judged_at_all (read) in
    let in_range : let args = c.args in is_range args.from args.to ≡ true = sym c.is_range.ensures ∙ c.if-not-is_range.false in
    let args = c.args in
    let is = judged in
    c.refused-then-number-ne-ACCEPTED.ensures
    ∙ ap refused_with is
    ∙ by_set args.sheet.now args.from args.to passed in_range (λ e. c.if-number-ne-ACCEPTED.true (is ∙ e))

pub overflow_cast-result : goal.overflow_cast-result
overflow_cast-result c =
    let in_range : let args = c.args in is_range args.from args.to ≡ true = sym c.is_range.ensures ∙ c.if-not-is_range.false in
    let args = c.args in
    let r = ranged args.from args.to in_range in
    omega (arith, r.order, r.last)

pub overflow_cast-result-2 : goal.overflow_cast-result-2
overflow_cast-result-2 c =
    let in_range : let args = c.args in is_range args.from args.to ≡ true = sym c.is_range.ensures ∙ c.if-not-is_range.false in
    let args = c.args in
    omega (arith, (ranged args.from args.to in_range).last)

pub returns : goal.returns
returns c =
    let passed : (scanned false c.args.sheet.now).number ≡ 0 = rw c.scan_sheet-scanned.ensures at c.if-scanned-ne-ACCEPTED.false in
    let read : c.read_given.result.set ≡ requested c.args.sheet.now = let args = c.args in
    ap (λ (r : ReadPlan). r.set) c.read_given.ensures ∙ given_set args.sheet.now args.from args.to (passed) in
    let in_range : let args = c.args in is_range args.from args.to ≡ true = sym c.is_range.ensures ∙ c.if-not-is_range.false in
    let judged : c.answer_number-number.result ≡ judged_at_all (requested c.args.sheet.now) = c.answer_number-number.ensures ∙ c.judge.ensures ∙ ap judged_at_all (read) in
    let args = c.args in
    let set = read in
    let none = none_refused args.sheet.now args.from args.to passed in_range (sym judged ∙ c.if-number-ne-ACCEPTED.false) in
    rw (c.no_tuning.ensures, c.plan-planned.ensures, set) none
