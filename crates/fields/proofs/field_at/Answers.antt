-- `field_at` is right because it asks the definition's tests in the definition's order, and stops at the first that fails.
use mathlib.Core.Path.{◌≡◌, sym, ap, ◌∙◌}
use native.Mathlib.Omega.{arith}
use Prim.Native.Nat.{◌+◌, ◌≤◌, ◌<◌}
use Rattle.fields.specs.Fields.{left, tag_at, size_at, is_allowed, allowed_at}
use Rattle.fields.proofs.FieldLaws.{field_refused, field_short, field_wrong, field_cut, field_whole, handed_whole}
use Rattle.fields.proofs.field_at.Goals as goal

pub returns-then-left_from-lt3 : goal.returns-then-left_from-lt3
returns-then-left_from-lt3 c =
    let args = c.args in
    c.refused.ensures ∙ sym (field_refused _ _ _ 1 (field_short args.bs.now args.at args.passed (omega arith)) (omega arith))

pub returns-then-not-is_allowed : goal.returns-then-not-is_allowed
returns-then-not-is_allowed c =
    let args = c.args in
    let said : c.is_allowed.result ≡ allowed_at args.bs.now args.at args.passed = c.is_allowed.ensures ∙ ap (is_allowed args.passed (tag_at args.bs.now args.at)) c.short_at-size.ensures.is in
    c.refused-then-not-is_allowed.ensures ∙
    sym
    (field_refused _ _ _ 2 (field_wrong args.bs.now args.at args.passed (omega arith) (sym said ∙ c.if-not-is_allowed.true)) (omega arith))

pub returns-then-left_from-size : goal.returns-then-left_from-size
returns-then-left_from-size c =
    let args = c.args in
    let is = c.short_at-size.ensures.is in
    let said : c.is_allowed.result ≡ allowed_at args.bs.now args.at args.passed = c.is_allowed.ensures ∙ ap (is_allowed args.passed (tag_at args.bs.now args.at)) is in
    let cut : left args.bs.now (args.at + 3) < size_at args.bs.now args.at = omega arith in
    c.refused-then-left_from-size.ensures ∙
    sym
    (field_refused _ _ _ 1 (field_cut args.bs.now args.at args.passed (omega arith) (sym said ∙ c.if-not-is_allowed.false) cut) (omega arith))

pub returns : goal.returns
returns c =
    let args = c.args in
    let is = c.short_at-size.ensures.is in
    let said : c.is_allowed.result ≡ allowed_at args.bs.now args.at args.passed = c.is_allowed.ensures ∙ ap (is_allowed args.passed (tag_at args.bs.now args.at)) is in
    let whole : size_at args.bs.now args.at ≤ left args.bs.now (args.at + 3) = omega arith in
    rw is
    (sym
    (handed_whole _ _ _ _ (field_whole args.bs.now args.at args.passed (omega arith) (sym said ∙ c.if-not-is_allowed.false) whole)))
