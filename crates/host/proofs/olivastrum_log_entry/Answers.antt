-- `olivastrum_log_entry` is right because the size of the record that stands there says its kind, and each kind is told as the definition has it.
use Prim.Native.Nat.{ℕ, ◌+◌, ◌≤◌}
use mathlib.Core.Path.{◌≡◌, refl, sym, ◌∙◌}
use mathlib.Core.Bool.{Bool, true, false, cond}
use mathlib.Core.List.{List}
use mathlib.Core.Logic.{◌≢◌}
use native.Mathlib.Omega.{arith}
use lib.Dec.{eqb}
use lib.ListN.{length}
use borrow.Author.Tests.{le-leb, ne_eqb}
use Rattle.log_records.specs.Visit.{visit_length, visit_or_blank, visit_stands}
use Rattle.log_records.specs.Mark.{mark_length, mark_or_blank, mark_stands}
use Rattle.log_records.specs.Entry.{next_entry}
use Rattle.log_records.proofs.VisitLaws.{visit_there}
use Rattle.log_records.proofs.MarkLaws.{mark_there}
use Rattle.logs.specs.Records.{record_size}
use Rattle.inspection.specs.Kept.{told_of}
use Rattle.host.specs.Told.{told}
use Rattle.host.proofs.olivastrum_log_entry.Goals as goal

-- a size of 20 is a visit's, one of 5 a mark's, and no record has another
abbrev sized : Bool → Bool → ℕ
sized v m = cond v visit_length (cond m mark_length 0)

sized_visit : (v m : Bool) → sized v m ≡ 20 → v ≡ true
sized_visit true m e = refl
sized_visit false true e = absurd (omega arith)
sized_visit false false e = absurd (omega arith)

sized_mark : (v m : Bool) → sized v m ≡ 5 → (v ≡ false) × (m ≡ true)
sized_mark true m e = absurd (omega arith)
sized_mark false true e = (refl, refl)
sized_mark false false e = absurd (omega arith)

sized_none : (v m : Bool) → sized v m ≢ 20 → sized v m ≢ 5 → (v ≡ false) × (m ≡ false)
sized_none true m n₁ n₂ = absurd (n₁ refl)
sized_none false true n₁ n₂ = absurd (n₂ refl)
sized_none false false n₁ n₂ = (refl, refl)

module _ (bs : List ℕ) (a : ℕ) (size : ℕ) (is : size ≡ record_size bs a) where
  visit_stands_lem : size ≡ 20 → (visit_stands bs a ≡ true) × (a + 20 ≤ length bs)
  unfolding record_size
  visit_stands_lem e =
      let stands = sized_visit (visit_stands bs a) (mark_stands bs a) (sym is ∙ e) in
      (stands, (visit_there bs a stands).inside)

  mark_stands_lem : size ≡ 5 → (visit_stands bs a ≡ false) × ((mark_stands bs a ≡ true) × (a + 5 ≤ length bs))
  unfolding record_size
  mark_stands_lem e =
      let both = sized_mark (visit_stands bs a) (mark_stands bs a) (sym is ∙ e) in
      (both.0, (both.1, (mark_there bs a both.1).inside))

  none_stands : size ≢ 20 → size ≢ 5 → (visit_stands bs a ≡ false) × (mark_stands bs a ≡ false)
  unfolding record_size
  none_stands n₁ n₂ = sized_none (visit_stands bs a) (mark_stands bs a) (λ e. n₁ (is ∙ e)) (λ e. n₂ (is ∙ e))

-- no place behind a record is 0
behind : (a k : ℕ) → 1 ≤ k → eqb (a + k) 0 ≡ false
behind a k some = ne_eqb (a + k) 0 (λ e. omega arith)

pub overflow_add-result : goal.overflow_add-result
overflow_add-result c =
    let visit_inside : let args = c.args in
    (visit_stands args.log.now args.at ≡ true) × (args.at + 20 ≤ length args.log.now) = let args = c.args in
    visit_stands_lem args.log.now args.at _ c.record_size-size.ensures c.if-size-eq-VISIT_LENGTH.true in
    let inside = visit_inside.1 in omega arith

pub returns-then-size-eq-VISIT_LENGTH : goal.returns-then-size-eq-VISIT_LENGTH
unfolding told told_of next_entry visit_or_blank
returns-then-size-eq-VISIT_LENGTH c =
    let visit_inside : let args = c.args in
    (visit_stands args.log.now args.at ≡ true) × (args.at + 20 ≤ length args.log.now) = let args = c.args in
    visit_stands_lem args.log.now args.at _ c.record_size-size.ensures c.if-size-eq-VISIT_LENGTH.true in
    let there = visit_inside in
    rw (c.from.ensures, c.visit_at.ensures, c.blank_mark.ensures, le-leb _ _ there.1, there.0, behind c.args.at 20 (omega arith)) refl

pub overflow_add-result-then-size-eq-MARK_LENGTH : goal.overflow_add-result-then-size-eq-MARK_LENGTH
overflow_add-result-then-size-eq-MARK_LENGTH c =
    let mark_inside : let args = c.args in
    (visit_stands args.log.now args.at ≡ false) × ((mark_stands args.log.now args.at ≡ true) × (args.at + 5 ≤ length args.log.now)) = let args = c.args in
    mark_stands_lem args.log.now args.at _ c.record_size-size.ensures c.if-size-eq-MARK_LENGTH.true in
    let inside = mark_inside.1.1 in omega arith

pub returns-then-size-eq-MARK_LENGTH : goal.returns-then-size-eq-MARK_LENGTH
unfolding told told_of next_entry mark_or_blank
returns-then-size-eq-MARK_LENGTH c =
    let mark_inside : let args = c.args in
    (visit_stands args.log.now args.at ≡ false) × ((mark_stands args.log.now args.at ≡ true) × (args.at + 5 ≤ length args.log.now)) = let args = c.args in
    mark_stands_lem args.log.now args.at _ c.record_size-size.ensures c.if-size-eq-MARK_LENGTH.true in
    let there = mark_inside in
    rw (c.from-then-size-eq-MARK_LENGTH.ensures, c.mark_at.ensures, c.blank_visit.ensures, le-leb _ _ there.1.1, there.0, there.1.0, behind c.args.at 5 (omega arith)) refl

pub returns : goal.returns
unfolding told next_entry
returns c =
    let args = c.args in
    let none = none_stands args.log.now args.at _ c.record_size-size.ensures c.if-size-eq-VISIT_LENGTH.false c.if-size-eq-MARK_LENGTH.false in
    rw (c.blank_mark-2.ensures, c.blank_visit-2.ensures, none.0, none.1) refl
