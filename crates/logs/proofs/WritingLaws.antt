-- The laws of writing a log: what a beginning, an adding and an ending answer follows from what was put into the buffer.
use Rattle.std.proofs.Common.{◌≡◌, ℕ, zero, suc, ◌+◌, ◌%◌, ◌^◌, ◌<◌, ◌≤◌, true, ◌≢◌, List, length, sym, refl, ap, ◌∙◌, arith, leb-true}
use Rattle.units.proofs.JudgingLaws.{passed}
use Rattle.sets.specs.declared.Set.{Set}
use Rattle.plans.specs.declared.Alloc.{Alloc}
use Rattle.log_records.specs.Visit.{visit_bytes}
use Rattle.log_records.specs.Mark.{mark_bytes}
use Rattle.log_records.specs.declared.MarkEntry.{MarkEntry}
use Rattle.log_records.proofs.VisitLaws.{visit_length_lem}
use Rattle.log_records.proofs.MarkLaws.{mark_length_lem}
use Rattle.sheets.specs.Layout.{fields_length, end_bytes}
use Rattle.sheets.specs.Writing.{WroteFields, room_number, laid_after, PutAt}
use Rattle.sheets.specs.declared.Written.{Written}
use Rattle.sheets.proofs.WritingLaws.{answer_refused, answer_accepted, answer_number}
use Rattle.rings.specs.declared.VisitRecord.{VisitRecord}
use Rattle.logs.specs.Writing.{low, rise, counter_at, begun_with, begin_number, Began, visit_by, add_number, not_added, added_with, Added, marked_with, AddedMark, end_number, EndedLog}
use Rattle.logs.specs.declared.Recorder.{Recorder}

-- ---- the counter

-- what a wrapping difference is
pub rise_is : (x before now : ℕ) → x < 2 ^ 32 → (x + low before) % 2 ^ 32 ≡ low now → x ≡ rise before now
unfolding rise
rise_is x before now small e = omega arith

-- ---- 14

-- what was not refused fits
pub room_fits : (end room : ℕ) → room_number end room ≡ 0 → end ≤ room
room_fits end room h = leb-true _ _ (passed _ 14 0 (λ e. absurd (omega arith)) h).0

-- ---- beginning

pub begun_refused : (k at clock counter : ℕ) → k ≢ 0 → begun_with k at clock counter ≡ record { at = 0; clock = 0; counter = 0; number = k }
unfolding begun_with
begun_refused zero at clock counter h = absurd (h refl)
begun_refused (suc k) at clock counter h = refl

pub begun_accepted : (k at clock counter : ℕ) → k ≡ 0 → begun_with k at clock counter ≡ record { at = at; clock = clock; counter = counter; number = 0 }
unfolding begun_with
begun_accepted k at clock counter h = rw h refl

module _ (t : Set) (a : Alloc) (counter clock : ℕ) (before after : List ℕ) (w : Written) (wrote : WroteFields true t a before after w) where
  begin_number_lem : w.number ≡ begin_number t a (length before)
  begin_number_lem = ap (λ (r : Written). r.number) wrote.answer ∙ answer_number _ _

  pub began_refused : w.number ≢ 0 → Began t a counter clock before after (record { at = 0; clock = 0; counter = 0; number = w.number })
  began_refused h =
      record {
        recorder = rw begin_number_lem (sym (begun_refused _ (fields_length true t) clock counter (λ z. h (begin_number_lem ∙ z))));
        buffer = wrote.buffer;
      }

  pub began_all : w.number ≡ 0 → Began t a counter clock before after (record { at = w.length; clock = clock; counter = counter; number = 0 })
  began_all h =
      let z = sym begin_number_lem ∙ h in
      let long : w.length ≡ fields_length true t = ap (λ (r : Written). r.length) (wrote.answer ∙ answer_accepted _ (fields_length true t) z) in
      record {
        recorder = rw long (sym (begun_accepted _ (fields_length true t) clock counter z));
        buffer = wrote.buffer;
      }

-- ---- adding

pub added_refused_is : (k : ℕ) (r : Recorder) (v : VisitRecord) → k ≢ 0 → added_with k r v ≡ not_added r k
unfolding added_with
added_refused_is zero r v h = absurd (h refl)
added_refused_is (suc k) r v h = refl

pub added_accepted : (k : ℕ) (r : Recorder) (v : VisitRecord) → k ≡ 0
    → added_with k r v ≡ record { at = r.at + 20; clock = v.start.0; counter = counter_at r.counter r.clock v.start.0; number = 0 }
unfolding added_with
added_accepted k r v h = rw h refl

pub marked_refused_is : (k : ℕ) (r : Recorder) → k ≢ 0 → marked_with k r ≡ not_added r k
unfolding marked_with
marked_refused_is zero r h = absurd (h refl)
marked_refused_is (suc k) r h = refl

pub marked_accepted : (k : ℕ) (r : Recorder) → k ≡ 0 → marked_with k r ≡ record { at = r.at + 5; clock = r.clock; counter = r.counter; number = 0 }
unfolding marked_with
marked_accepted k r h = rw h refl

-- a field of so many bytes that was put: its number, and the buffer
module _ (r : Recorder) (field : List ℕ) (size : ℕ) (long : length field ≡ size) (before after : List ℕ) (number : ℕ) (put : PutAt r.at field 3 before after number) where
  add_same : room_number (r.at + length field + 3) (length before) ≡ add_number r size (length before)
  add_same = rw long refl

  pub add_number_lem : number ≡ add_number r size (length before)
  add_number_lem = put.answer ∙ add_same

  add_buffer : after ≡ laid_after (add_number r size (length before)) before r.at field
  add_buffer = put.buffer ∙ ap (λ (k : ℕ). laid_after k before r.at field) add_same

module _ (r : Recorder) (v : VisitRecord) (before after : List ℕ) (number : ℕ) (put : PutAt r.at (visit_bytes (visit_by r v)) 3 before after number) where
  pub visit_number_lem : number ≡ add_number r 20 (length before)
  visit_number_lem = add_number_lem r (visit_bytes (visit_by r v)) 20 (visit_length_lem (visit_by r v)) before after number put

  visit_buffer : after ≡ laid_after (add_number r 20 (length before)) before r.at (visit_bytes (visit_by r v))
  visit_buffer = add_buffer r (visit_bytes (visit_by r v)) 20 (visit_length_lem (visit_by r v)) before after number put

  pub added_refused : number ≢ 0 → Added r v before after (not_added r number)
  added_refused h = record { recorder = rw visit_number_lem (sym (added_refused_is _ r v (λ z. h (visit_number_lem ∙ z)))); buffer = visit_buffer }

  pub added_all : number ≡ 0 → Added r v before after (record { at = r.at + 20; clock = v.start.0; counter = counter_at r.counter r.clock v.start.0; number = 0 })
  added_all h = record { recorder = sym (added_accepted _ r v (sym visit_number_lem ∙ h)); buffer = visit_buffer }

module _ (r : Recorder) (m : MarkEntry) (before after : List ℕ) (number : ℕ) (put : PutAt r.at (mark_bytes m) 3 before after number) where
  pub mark_number_lem : number ≡ add_number r 5 (length before)
  mark_number_lem = add_number_lem r (mark_bytes m) 5 (mark_length_lem m) before after number put

  mark_buffer : after ≡ laid_after (add_number r 5 (length before)) before r.at (mark_bytes m)
  mark_buffer = add_buffer r (mark_bytes m) 5 (mark_length_lem m) before after number put

  pub marked_refused : number ≢ 0 → AddedMark r m before after (not_added r number)
  marked_refused h = record { recorder = rw mark_number_lem (sym (marked_refused_is _ r (λ z. h (mark_number_lem ∙ z)))); buffer = mark_buffer }

  pub marked_all : number ≡ 0 → AddedMark r m before after (record { at = r.at + 5; clock = r.clock; counter = r.counter; number = 0 })
  marked_all h = record { recorder = sym (marked_accepted _ r (sym mark_number_lem ∙ h)); buffer = mark_buffer }

-- ---- ending

module _ (r : Recorder) (before after : List ℕ) (number : ℕ) (put : PutAt r.at end_bytes 0 before after number) where
  end_same : room_number (r.at + length end_bytes + 0) (length before) ≡ end_number r (length before)
  end_same = let e : r.at + length end_bytes + 0 ≡ r.at + 3 = omega arith in ap (λ (k : ℕ). room_number k (length before)) e

  pub end_number_lem : number ≡ end_number r (length before)
  end_number_lem = put.answer ∙ end_same

  end_buffer_lem : after ≡ laid_after (end_number r (length before)) before r.at end_bytes
  end_buffer_lem = put.buffer ∙ ap (λ (k : ℕ). laid_after k before r.at end_bytes) end_same

  pub ended_refused : number ≢ 0 → EndedLog r before after (record { length = 0; number = number })
  ended_refused h = record { answered = rw end_number_lem (sym (answer_refused _ (r.at + 3) (λ z. h (end_number_lem ∙ z)))); buffer = end_buffer_lem }

  pub ended_all : number ≡ 0 → EndedLog r before after (record { length = r.at + 3; number = number })
  ended_all h = record { answered = ap (λ (k : ℕ). record { length = r.at + 3; number = k }) h ∙ sym (answer_accepted _ (r.at + 3) (sym end_number_lem ∙ h)); buffer = end_buffer_lem }
