-- One byte more of a run that is recorded, a log that begins, and pieces of a text.
use Prim.Native.Nat.{ℕ, zero, suc, ◌+◌, ◌≤◌, ◌<◌}
use mathlib.Core.Path.{◌≡◌, refl, sym, ap, ◌∙◌}
use mathlib.Core.Bool.{true}
use mathlib.Core.List.{List, [], ◌∷◌, append-nil}
use mathlib.Core.Logic.{◌≢◌}
use native.Mathlib.Omega.{arith}
use borrow.Author.Tests.{le-leb}
use lib.Dec.{leb}
use lib.ListN.{length, take}
use lib.Seq.{length-take-le}
use Rattle.units.specs.Judging.{or_else}
use Rattle.fields.specs.Rows.{laid}
use Rattle.sheets.specs.Layout.{fields_of, fields_length, sheet_length}
use Rattle.sheets.proofs.ReadLaws.{then_rest, then_keeps}
use Rattle.sheets.specs.Writing.{write_number, write_answer, buffer_after, laid_after, WroteFields}
use Rattle.sheets.proofs.WriteLaws.{written_fits}
use Rattle.sheets.specs.declared.ReadPlan.{ReadPlan}
use Rattle.sheets.specs.declared.Written.{Written}
use Rattle.sheets.proofs.WritingLaws.{answer_refused, answer_number, buffer_refused}
use Rattle.log_records.specs.Visit.{visit_bytes}
use Rattle.log_records.specs.Mark.{mark_bytes}
use Rattle.log_records.specs.declared.MarkEntry.{MarkEntry}
use Rattle.log_records.specs.declared.Entry.{Entry}
use Rattle.log_records.specs.declared.Entry.TheVariants.{Visit, Mark}
use Rattle.log_records.proofs.VisitLaws.{visit_length_lem}
use Rattle.log_records.proofs.MarkLaws.{mark_length_lem}
use Rattle.rings.specs.declared.VisitAnswer.{VisitAnswer}
use Rattle.logs.specs.Layout.{entries_bytes}
use Rattle.logs.specs.Writing.{counter_at, visit_by, added_with, Added, marked_with, AddedMark}
use Rattle.logs.specs.declared.Recorder.{Recorder}
use Rattle.text.specs.Text.{page_size}
use Rattle.text.proofs.TextLaws.{put_none, printed, not_printed}
use Rattle.command_run.specs.Bytes.{moved_over}
use Rattle.command_run.specs.Runs.{byte_on, opened_run, piece_size}
use Rattle.command_run.proofs.RunLaws.{did, piece_none, piece_whole}
use Rattle.command_run.specs.declared.LineStep.{LineStep}
use Rattle.command_run.specs.declared.OpenedRun.{OpenedRun}
use Rattle.command_run.specs.Calls.{is_unread}
use Rattle.command_log.specs.LogBytes.{record_from, if_accepted, visits_in, clock_after, counter_after, entries_by, first_unread, record_on, logged_at, record_after, logged_over}
use Rattle.command_log.specs.LogBytes.{Records, RecordedPiece, RecordedOn, open_number, OpenedOn}
use Rattle.command_log.specs.declared.Recording.{Recording}
use Rattle.command_log.specs.declared.Recorded.{Recorded}

-- ---- one byte more

-- the recording behind it, and what goes out, by what the byte did
pub record_byte : (k : Recording) (b : ℕ) (s : LineStep) → s ≡ byte_on k.run b
    → (record {
      run = s.run;
      clock = clock_after k.clock (visits_in s.answer);
      counter = counter_after k.counter k.clock (visits_in s.answer);
      unread = first_unread k.unread k.run.line (is_unread s.answer);
    }
    ≡ record_on k b)
    × (entries_bytes (entries_by k.counter k.clock s.answer) ≡ logged_at k b)
unfolding record_on logged_at
record_byte k b s e =
    let it = did k.run b e in
    rw (← it.0, ← it.1) (refl, refl)

-- ---- one record into the page

-- what an accepted call leaves, and a refused one
pub left_one : {A : Type 0} (k : ℕ) (x : A) → k ≡ 0 → if_accepted k x ≡ x ∷ []
unfolding if_accepted
left_one k x e = rw e refl

pub left_none : {A : Type 0} (k : ℕ) (x : A) → k ≢ 0 → if_accepted k x ≡ []
unfolding if_accepted
left_none zero x e = absurd (e refl)
left_none (suc k) x e = refl

pub records_none : (r : Recorder) (page : List ℕ) → Records r [] [] page page r
unfolding entries_bytes clock_after counter_after
records_none r page = record { put = record { put = put_none page r.at; short = omega arith }; clock = refl; counter = refl }

pub visit_skipped : (r : Recorder) (a : VisitAnswer) (e : Entry) (page : List ℕ) → a.number ≢ 0
    → Records r (if_accepted a.number a.«record») (if_accepted a.number e) page page r
visit_skipped r a e page k = rw (left_none a.number a.«record» k, left_none a.number e k) (records_none r page)

pub visit_added : (r next : Recorder) (a : VisitAnswer) (before after : List ℕ) → a.number ≡ 0 → r.at + 23 ≤ length before → Added r a.«record» before after next
    → Records r (if_accepted a.number a.«record») (if_accepted a.number (Visit (visit_by r a.«record»))) before after next
unfolding entries_bytes clock_after counter_after laid_after or_else added_with
visit_added r next a before after e room h =
    let v = a.«record» in
    let long = visit_length_lem (visit_by r a.«record») in
    let fits : leb (r.at + 20 + 3) (length before) ≡ true = le-leb (r.at + 20 + 3) (length before) (omega arith) in
    let made : next ≡ record { at = r.at + 20; clock = v.start.0; counter = counter_at r.counter r.clock v.start.0; number = 0 } = rw fits at h.recorder in
    let there : after ≡ laid before r.at (visit_bytes (visit_by r v)) = rw fits at h.buffer in
    rw (left_one a.number v e, left_one a.number (Visit (visit_by r v)) e, made)
    (record {
      put = rw (append-nil (visit_bytes (visit_by r v))) (record { put = record { page = there; next = omega arith }; short = omega arith });
      clock = refl;
      counter = refl;
    })

pub mark_skipped : (r : Recorder) (k : ℕ) (m : MarkEntry) (page : List ℕ) → k ≢ 0 → Records r [] (if_accepted k (Mark m)) page page r
mark_skipped r k m page e = rw (left_none k (Mark m) e) (records_none r page)

pub mark_added : (r next : Recorder) (k : ℕ) (m : MarkEntry) (before after : List ℕ) → k ≡ 0 → r.at + 23 ≤ length before → AddedMark r m before after next
    → Records r [] (if_accepted k (Mark m)) before after next
unfolding entries_bytes clock_after counter_after laid_after or_else marked_with
mark_added r next k m before after e room h =
    let long = mark_length_lem m in
    let fits : leb (r.at + 5 + 3) (length before) ≡ true = le-leb (r.at + 5 + 3) (length before) (omega arith) in
    let made : next ≡ record { at = r.at + 5; clock = r.clock; counter = r.counter; number = 0 } = rw fits at h.recorder in
    let there : after ≡ laid before r.at (mark_bytes m) = rw fits at h.buffer in
    rw (left_one k (Mark m) e, made)
    (record {
      put = rw (append-nil (mark_bytes m)) (record { put = record { page = there; next = omega arith }; short = omega arith });
      clock = refl;
      counter = refl;
    })

-- ---- a log that begins

answer_less : (k small large : ℕ) → small ≤ large → (write_answer k small).length ≤ (write_answer k large).length
unfolding write_answer
answer_less zero small large l = l
answer_less (suc k) small large l = omega arith

module _ (p : ReadPlan) (o : OpenedRun) (k : Recording) (same : o ≡ opened_run p) (begins : k ≡ record_from o.run) where
  begun : k ≡ record_from (opened_run p).run
  begun = begins ∙ ap (λ (x : OpenedRun). record_from x.run) same

  first : o.number ≡ (opened_run p).number
  first = ap (λ (x : OpenedRun). x.number) same

  pub opened_refused : (out : List ℕ) → o.number ≢ 0 → OpenedOn p out out (record { recording = k; length = 0; number = o.number })
  opened_refused out z =
      let other : (opened_run p).number ≢ 0 = λ e. z (first ∙ e) in
      let keeps = then_keeps (opened_run p).number (write_number true p.set p.alloc (length out)) other in
      record {
        recording = begun;
        number = first ∙ sym keeps;
        size = sym (ap (λ (n : ℕ). (write_answer n (fields_length true p.set)).length) keeps
            ∙ ap (λ (w : Written). w.length) (answer_refused (opened_run p).number (fields_length true p.set) other));
        buffer = sym (ap (λ (n : ℕ). buffer_after n (fields_of true p.set p.alloc) out) keeps ∙ buffer_refused (opened_run p).number (fields_of true p.set p.alloc) out other);
        fits = omega arith;
        counts = refl;
      }

  pub opened_accepted : (before after : List ℕ) (w : Written) → o.number ≡ 0 → WroteFields true p.set p.alloc before after w → length after ≡ length before
      → OpenedOn p before after (record { recording = k; length = w.length; number = w.number })
  opened_accepted before after w z wrote long =
      let N = write_number true p.set p.alloc (length before) in
      let L = fields_length true p.set in
      let rest : open_number p (length before) ≡ write_number true p.set p.alloc (length before) = then_rest (opened_run p).number N (sym first ∙ z) in
      let answer : w ≡ write_answer (write_number true p.set p.alloc (length before)) (fields_length true p.set) = wrote.answer in
      let size : w.length ≡ (write_answer (write_number true p.set p.alloc (length before)) (fields_length true p.set)).length = ap (λ (x : Written). x.length) answer in
      let inside : w.length ≤ length after = omega (arith, answer_less N L (sheet_length true p.set) (omega arith), written_fits true p.set p.alloc before) in
      record {
        recording = begun;
        number = ap (λ (x : Written). x.number) answer ∙ answer_number N L ∙ sym rest;
        size = size ∙ ap (λ (n : ℕ). (write_answer n (fields_length true p.set)).length) (sym rest);
        buffer = wrote.buffer ∙ ap (λ (n : ℕ). buffer_after n (fields_of true p.set p.alloc) before) (sym rest);
        fits = inside;
        counts = sym (length-take-le w.length after inside);
      }

-- ---- a piece of the text

pub recorded_none : (k : Recording) (text page : List ℕ) → length page < page_size → RecordedOn k text page page (record { recording = k; length = 0 })
unfolding moved_over
recorded_none k text page small = record { behind = ap (record_after k) (piece_none text page small); logged = not_printed small }

pub recorded_piece : (k : Recording) (text piece before after : List ℕ) (r : Recorded)
    → piece ≡ take piece_size text → page_size ≤ length before → RecordedPiece k piece before after r → RecordedOn k text before after r
recorded_piece k text piece before after r e large h =
    let read = piece_whole text piece before e large in
    record {
      behind = h.behind ∙ ap (record_after k) read;
      logged = printed h.logged (ap (logged_over k) read) large (omega arith);
    }
