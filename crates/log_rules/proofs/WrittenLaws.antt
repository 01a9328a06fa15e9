-- What a recording leaves: what was laid so far stands in the first bytes, the next field is laid behind it, and the counter shows at every clock what it would show without the steps between.
use Prim.Native.Nat.{ℕ, ◌+◌, ◌*◌, ◌≤◌, ◌<◌}
use mathlib.Core.Path.{◌≡◌, refl, sym, ap, subst, ◌∙◌}
use mathlib.Core.Bool.{true}
use mathlib.Core.List.{List, [], ◌∷◌, ◌++◌, map, append_assoc, append-nil}
use mathlib.Core.Logic.{⊎_elim}
use native.Mathlib.Omega.{arith}
use lib.ListN.{length, drop, length-append}
use borrow.Author.Tests.{le-leb, lt-leb}
use Rattle.units.proofs.JudgingLaws.{held, failed}
use Rattle.units.proofs.SmallLaws.{below_or_not}
use Rattle.sets.specs.declared.Set.{Set}
use Rattle.plans.specs.Planned.{judged_plan}
use Rattle.plans.specs.declared.Alloc.{Alloc}
use Rattle.fields.specs.Rows.{laid}
use Rattle.fields.proofs.RowLaws.{laid_length, laid_first}
use Rattle.fields.proofs.SegmentLaws.{laid_more}
use Rattle.log_records.specs.Visit.{visit_bytes}
use Rattle.log_records.specs.Mark.{mark_bytes}
use Rattle.log_records.specs.Entry.{entry_bytes}
use Rattle.log_records.specs.declared.MarkEntry.{MarkEntry}
use Rattle.log_records.specs.declared.Entry.{Entry}
use Rattle.log_records.specs.declared.Entry.TheVariants.{Visit, Mark}
use Rattle.log_records.proofs.VisitLaws.{visit_length_lem}
use Rattle.log_records.proofs.MarkLaws.{mark_length_lem}
use Rattle.sheets.specs.Layout.{fields_of, fields_length, end_bytes, sheet_length}
use Rattle.sheets.specs.Reading.{judged_sheet}
use Rattle.sheets.specs.Writing.{room_number, laid_after}
use Rattle.sheets.proofs.WritingLaws.{fields_long, number_none, answer_accepted, buffer_accepted}
use Rattle.rings.specs.declared.VisitRecord.{VisitRecord}
use Rattle.logs.specs.Layout.{entries_bytes, log_of, log_length}
use Rattle.logs.specs.Writing.{counter_at, begin_number, begun, begun_buffer, visit_by, add_number, not_added, added, added_buffer, added_mark, marked_buffer, ended, ended_buffer}
use Rattle.logs.specs.declared.Recorder.{Recorder}
use Rattle.logs.proofs.WritingLaws.{begun_accepted, added_accepted, added_refused_is, marked_accepted, marked_refused_is}
use Rattle.promises.specs.Run.{noted}
use Rattle.log_rules.specs.Recorded.{Told, a_visit, a_mark, Recording, beginning, one_more, recorded, kept_of, end_answer, end_buffer, entry_for}
use Rattle.log_rules.specs.Promised.{visit_count, mark_count}
use Rattle.log_rules.proofs.CounterLaws.{counter_on}

-- ---- lengths

-- 20 of a visit, 5 of a mark
pub entries_length : (es : List Entry) → length (entries_bytes es) ≡ 20 * visit_count es + 5 * mark_count es
unfolding entries_bytes
entries_length [] = refl
entries_length (Visit v ∷ es) = omega (arith, length-append (visit_bytes v) (entries_bytes es), visit_length_lem v, entries_length es)
entries_length (Mark m ∷ es) = omega (arith, length-append (mark_bytes m) (entries_bytes es), mark_length_lem m, entries_length es)

pub log_long : (t : Set) (a : Alloc) (es : List Entry) → length (log_of t a es) ≡ log_length t es
unfolding log_of
log_long t a es =
    omega
    (arith, length-append (fields_of true t a ++ entries_bytes es) end_bytes, length-append (fields_of true t a) (entries_bytes es), fields_long true t a)

-- ---- 14, and what is laid

pub room_none : (end room : ℕ) → end ≤ room → room_number end room ≡ 0
room_none end room h = held _ _ _ (le-leb _ _ h)

pub room_short : (end room : ℕ) → room < end → room_number end room ≡ 14
room_short end room h = failed _ _ _ (lt-leb _ _ h)

module _ (out : List ℕ) (a : ℕ) (bytes : List ℕ) where
  pub laid_zero : (k : ℕ) → k ≡ 0 → laid_after k out a bytes ≡ laid out a bytes
  unfolding laid_after
  laid_zero k e = rw e refl

  pub laid_fourteen : (k : ℕ) → k ≡ 14 → laid_after k out a bytes ≡ out
  unfolding laid_after
  laid_fourteen k e = rw e refl

-- what was accepted is kept
noted_there : (k : ℕ) (x : Told) (rest : List Told) → k ≡ 0 → noted k x rest ≡ x ∷ rest
unfolding noted
noted_there k x rest e = rw e refl

noted_not : (k : ℕ) (x : Told) (rest : List Told) → k ≡ 14 → noted k x rest ≡ rest
unfolding noted
noted_not k x rest e = rw e refl

-- ---- one call, accepted or refused with 14

module _ (t : Set) (a : Alloc) (counter clock : ℕ) (out : List ℕ) (judged_0 : judged_plan t a ≡ 0) (fits : sheet_length true t ≤ length out) where
  begins_none : begin_number t a (length out) ≡ 0
  unfolding judged_sheet
  begins_none = number_none true t a out judged_0 fits

  pub begins_with : begun t a counter clock out ≡ record { at = fields_length true t; clock = clock; counter = counter; number = 0 }
  begins_with = begun_accepted _ (fields_length true t) clock counter begins_none

  pub begins_fields : begun_buffer t a out ≡ fields_of true t a ++ drop (length (fields_of true t a)) out
  begins_fields = buffer_accepted _ (fields_of true t a) out begins_none

module _ (r : Recorder) (v : VisitRecord) (out : List ℕ) where
  pub adds_with : r.at + 23 ≤ length out → added r v out ≡ record { at = r.at + 20; clock = v.start.0; counter = counter_at r.counter r.clock v.start.0; number = 0 }
  adds_with fit = added_accepted _ r v (room_none (r.at + 20 + 3) (length out) (omega arith))

  pub adds_field : r.at + 23 ≤ length out → added_buffer r v out ≡ laid out r.at (visit_bytes (visit_by r v))
  adds_field fit = laid_zero out r.at (visit_bytes (visit_by r v)) _ (room_none (r.at + 20 + 3) (length out) (omega arith))

  add_short : length out < r.at + 23 → add_number r 20 (length out) ≡ 14
  add_short short = room_short (r.at + 20 + 3) (length out) (omega arith)

  pub adds_not : length out < r.at + 23 → added r v out ≡ not_added r 14
  adds_not short =
      let e = add_short short in
      added_refused_is _ r v (λ z. absurd (omega (arith, e, z))) ∙ ap (not_added r) e

  pub adds_nothing : length out < r.at + 23 → added_buffer r v out ≡ out
  adds_nothing short = laid_fourteen out r.at (visit_bytes (visit_by r v)) _ (add_short short)

module _ (r : Recorder) (out : List ℕ) where
  pub marks_with : r.at + 8 ≤ length out → added_mark r out ≡ record { at = r.at + 5; clock = r.clock; counter = r.counter; number = 0 }
  marks_with fit = marked_accepted _ r (room_none (r.at + 5 + 3) (length out) (omega arith))

  mark_short : length out < r.at + 8 → add_number r 5 (length out) ≡ 14
  mark_short short = room_short (r.at + 5 + 3) (length out) (omega arith)

  pub marks_not : length out < r.at + 8 → added_mark r out ≡ not_added r 14
  marks_not short =
      let e = mark_short short in
      marked_refused_is _ r (λ z. absurd (omega (arith, e, z))) ∙ ap (not_added r) e

  module _ (m : MarkEntry) where
    pub marks_field : r.at + 8 ≤ length out → marked_buffer r m out ≡ laid out r.at (mark_bytes m)
    marks_field fit = laid_zero out r.at (mark_bytes m) _ (room_none (r.at + 5 + 3) (length out) (omega arith))

    pub marks_nothing : length out < r.at + 8 → marked_buffer r m out ≡ out
    marks_nothing short = laid_fourteen out r.at (mark_bytes m) _ (mark_short short)

-- ---- the same, whatever is told

-- its field
abbrev field_by : Recording → Told → List ℕ
field_by s x = entry_bytes (entry_for s.recorder.counter s.recorder.clock x)

-- taken: its field is laid, the recorder stands behind it, and shows at every clock what it showed before
record Takes (s : Recording) (x : Told) : Type 0 where
  number : (one_more s x).recorder.number ≡ 0
  place : (one_more s x).recorder.at ≡ s.recorder.at + length (field_by s x)
  buffer : (one_more s x).buffer ≡ laid s.buffer s.recorder.at (field_by s x)
  same : (later : ℕ) → counter_at (one_more s x).recorder.counter (one_more s x).recorder.clock later ≡ counter_at s.recorder.counter s.recorder.clock later

takes : (s : Recording) (x : Told) → s.recorder.at + length (field_by s x) + 3 ≤ length s.buffer → Takes s x
takes s (a_visit v) fit =
    let r = s.recorder in
    let long = visit_length_lem (visit_by s.recorder v) in
    let inside : s.recorder.at + 23 ≤ length s.buffer = omega (arith, long) in
    let next = adds_with r v s.buffer inside in
    record {
      number = ap (λ (x : Recorder). x.number) next;
      place = ap (λ (x : Recorder). x.at) next ∙ ap (λ (k : ℕ). r.at + k) (sym long);
      buffer = adds_field r v s.buffer inside;
      same = λ later. ap (λ (x : Recorder). counter_at x.counter x.clock later) next ∙ counter_on r.counter r.clock v.start.0 later;
    }
takes s (a_mark m) fit =
    let r = s.recorder in
    let long = mark_length_lem m in
    let inside : s.recorder.at + 8 ≤ length s.buffer = omega (arith, long) in
    let next = marks_with r s.buffer inside in
    record {
      number = ap (λ (x : Recorder). x.number) next;
      place = ap (λ (x : Recorder). x.at) next ∙ ap (λ (k : ℕ). r.at + k) (sym long);
      buffer = marks_field r s.buffer m inside;
      same = λ later. ap (λ (x : Recorder). counter_at x.counter x.clock later) next;
    }

-- refused with 14: nothing else changes
stays : (s : Recording) (x : Told) → length s.buffer < s.recorder.at + length (field_by s x) + 3 → one_more s x ≡ record { recorder = not_added s.recorder 14; buffer = s.buffer }
stays s (a_visit v) short =
    let r = s.recorder in
    let outside : length s.buffer < s.recorder.at + 23 = omega (arith, visit_length_lem (visit_by s.recorder v)) in
    rw (adds_not r v s.buffer outside, adds_nothing r v s.buffer outside) refl
stays s (a_mark m) short =
    let r = s.recorder in
    let outside : length s.buffer < s.recorder.at + 8 = omega (arith, mark_length_lem m) in
    rw (marks_not r s.buffer outside, marks_nothing r s.buffer m outside) refl

module _ (r : Recorder) (out : List ℕ) where
  pub ends_with : r.at + 3 ≤ length out → ended r out ≡ record { length = r.at + 3; number = 0 }
  ends_with fit = answer_accepted _ (r.at + 3) (room_none (r.at + 3) (length out) fit)

  pub ends_field : r.at + 3 ≤ length out → ended_buffer r out ≡ laid out r.at end_bytes
  ends_field fit = laid_zero out r.at end_bytes _ (room_none (r.at + 3) (length out) fit)

-- ---- a recording

module _ (counter clock : ℕ) (out : List ℕ) where
  -- what was written so far stands in the first bytes, the recorder is behind it, and the end still fits; at every clock the counter shows what it would without the steps between
  pub record SoFar (s : Recording) (written : List ℕ) : Type 0 where
    pub buffer : s.buffer ≡ laid out 0 written
    pub place : s.recorder.at ≡ length written
    pub room : length written + 3 ≤ length out
    pub same : (later : ℕ) → counter_at s.recorder.counter s.recorder.clock later ≡ counter_at counter clock later

  module _ (s : Recording) (written : List ℕ) (so : SoFar s written) where
    buffer_long : length s.buffer ≡ length out
    buffer_long = let room = so.room in ap length so.buffer ∙ laid_length out 0 written (omega arith)

    -- the entry is that of the counter and the clock of the beginning
    same_entry : (x : Told) → entry_for s.recorder.counter s.recorder.clock x ≡ entry_for counter clock x
    same_entry (a_visit v) = rw (so.same v.start.0) refl
    same_entry (a_mark m) = refl

    same_field : (x : Told) → field_by s x ≡ entry_bytes (entry_for counter clock x)
    same_field x = ap entry_bytes (same_entry x)

    -- what fits
    more_fits : (x : Told) → length written + length (entry_bytes (entry_for counter clock x)) + 3 ≤ length out
        → ((one_more s x).recorder.number ≡ 0) × SoFar (one_more s x) (written ++ entry_bytes (entry_for counter clock x))
    more_fits x fit =
        let r = s.recorder in
        let field = entry_bytes (entry_for counter clock x) in
        let place : s.recorder.at ≡ length written = so.place in
        let size : length (field_by s x) ≡ length (entry_bytes (entry_for counter clock x)) = ap length (same_field x) in
        let taken = takes s x (omega (arith, buffer_long, size)) in
        let long : length (written ++ entry_bytes (entry_for counter clock x)) ≡ length written + length (entry_bytes (entry_for counter clock x)) = length-append written field in (
          taken.number,
          record {
            buffer = laid_more out s.buffer _ 0 r.at written field so.buffer (omega arith) (taken.buffer ∙ ap (laid s.buffer r.at) (same_field x)) (omega arith);
            place = taken.place ∙ omega (arith, place, size, long);
            room = omega arith;
            same = λ later. taken.same later ∙ so.same later;
          },
        )

    -- what does not
    more_short : (x : Told) → length out < length written + length (entry_bytes (entry_for counter clock x)) + 3 → ((one_more s x).recorder.number ≡ 14) × SoFar (one_more s x) written
    more_short x short =
        let place : s.recorder.at ≡ length written = so.place in
        let size : length (field_by s x) ≡ length (entry_bytes (entry_for counter clock x)) = ap length (same_field x) in
        let next = stays s x (omega (arith, buffer_long, size)) in
        rw next (refl, record { buffer = so.buffer; place = place; room = so.room; same = so.same })

    -- the end
    pub ends_all : (end_answer s ≡ record { length = length (written ++ end_bytes); number = 0 }) × (end_buffer s ≡ (written ++ end_bytes) ++ drop (length (written ++ end_bytes)) out)
    ends_all =
        let r = s.recorder in
        let room = so.room in
        let place : s.recorder.at ≡ length written = so.place in
        let inside : s.recorder.at + 3 ≤ length s.buffer = omega (arith, buffer_long) in
        let long : s.recorder.at + 3 ≡ length (written ++ end_bytes) = omega (arith, length-append written end_bytes) in (
          ends_with r s.buffer inside ∙ ap (λ (k : ℕ). record { length = k; number = 0 }) long,
          laid_more out s.buffer _ 0 r.at written end_bytes so.buffer (omega arith) (ends_field r s.buffer inside) (omega arith)
              ∙ laid_first out (written ++ end_bytes),
        )

  -- the fields of what was told
  abbrev fields_for : List Told → List ℕ
  fields_for xs = entries_bytes (map (entry_for counter clock) xs)

  -- all of a list
  pub recorded_so : (xs : List Told) (s : Recording) (written : List ℕ) → SoFar s written → SoFar (recorded s xs) (written ++ fields_for (kept_of s xs))
  unfolding recorded kept_of entries_bytes
  recorded_so [] s written so = rw append-nil so
  recorded_so (x ∷ xs) s written so =
      ⊎_elim (λ (short : length out < length written + length (entry_bytes (entry_for counter clock x)) + 3).
      let next = more_short s written so x short in
      rw (noted_not _ x (kept_of (one_more s x) xs) next.0) (recorded_so xs (one_more s x) written next.1))
      (λ (fit : length written + length (entry_bytes (entry_for counter clock x)) + 3 ≤ length out).
      let next = more_fits s written so x fit in
      let field = entry_bytes (entry_for counter clock x) in
      let rest = kept_of (one_more s x) xs in
      rw (noted_there _ x rest next.0)
      (subst (SoFar (recorded (one_more s x) xs)) (append_assoc written field (fields_for rest)) (recorded_so xs (one_more s x) (written ++ field) next.1)))
      (below_or_not (length out) (length written + length (entry_bytes (entry_for counter clock x)) + 3))

  -- where there is room for all, all are kept
  pub kept_all : (xs : List Told) (s : Recording) (written : List ℕ) → SoFar s written → length written + length (fields_for xs) + 3 ≤ length out → kept_of s xs ≡ xs
  unfolding kept_of entries_bytes
  kept_all [] s written so room = refl
  kept_all (x ∷ xs) s written so room =
      let field = entry_bytes (entry_for counter clock x) in
      let both : length (entry_bytes (entry_for counter clock x) ++ fields_for xs) ≡ length (entry_bytes (entry_for counter clock x)) + length (fields_for xs) = length-append field (fields_for xs) in
      let fit : length written + length (entry_bytes (entry_for counter clock x)) + 3 ≤ length out = omega arith in
      let next = more_fits s written so x fit in
      noted_there _ x (kept_of (one_more s x) xs) next.0
      ∙ ap (λ (rest : List Told). x ∷ rest) (kept_all xs (one_more s x) _ next.1 (omega (arith, length-append written field)))

-- ---- from the beginning to the end

module _ (t : Set) (a : Alloc) (counter clock : ℕ) (out : List ℕ) (judged_0 : judged_plan t a ≡ 0) (fits : sheet_length true t ≤ length out) where
  begun_so : SoFar counter clock out (beginning t a counter clock out) (fields_of true t a)
  begun_so =
      let first = begins_with t a counter clock out judged_0 fits in
      let long = fields_long true t a in
      record {
        buffer = begins_fields t a counter clock out judged_0 fits ∙ sym (laid_first out (fields_of true t a));
        place = ap (λ (x : Recorder). x.at) first ∙ sym long;
        room = omega arith;
        same = λ later. ap (λ (x : Recorder). counter_at x.counter x.clock later) first;
      }

  pub leaves_log : (xs : List Told)
      → let s = recorded (beginning t a counter clock out) xs in
      let log = log_of t a (map (entry_for counter clock) (kept_of (beginning t a counter clock out) xs)) in
      (end_answer s ≡ record { length = length log; number = 0 }) × (end_buffer s ≡ log ++ drop (length log) out)
  unfolding log_of
  leaves_log xs = ends_all counter clock out _ _ (recorded_so counter clock out xs (beginning t a counter clock out) (fields_of true t a) begun_so)

  pub keeps_all : (xs : List Told) → sheet_length true t + length (entries_bytes (map (entry_for counter clock) xs)) ≤ length out → kept_of (beginning t a counter clock out) xs ≡ xs
  keeps_all xs room = kept_all counter clock out xs (beginning t a counter clock out) (fields_of true t a) begun_so (omega (arith, fields_long true t a))
