-- The promises hold because a recording lays one field behind the other, the walk goes by all of them, and each is read where it was laid.
use Prim.Native.Nat.{ℕ, zero, suc, ◌+◌, ◌-◌, ◌%◌, ◌^◌, ◌≤◌, ◌<◌}
use mathlib.Core.Path.{◌≡◌, refl, sym, ap, subst, ◌∙◌}
use mathlib.Core.Bool.{true, false, ◌&&◌}
use mathlib.Core.List.{List, [], ◌∷◌, ◌++◌, map, reverse, append_assoc, append-nil}
use mathlib.Core.Logic.{◌⊎◌, inl, inr, ⊎_elim, ◌↔◌, ◌≢◌}
use native.Mathlib.Nat.{mod-eq_of_lt}
use native.Mathlib.Omega.{arith}
use lib.ListN.{length, drop}
use lib.Seq.{take_at}
use borrow.Author.Tests.{leb-true}
use Rattle.units.specs.Numbers.{timely}
use Rattle.units.specs.Places.{at, fill}
use Rattle.units.proofs.JudgingLaws.{true_or_false, passed}
use Rattle.units.proofs.SmallLaws.{below_or_not}
use Rattle.sets.specs.Header.{head_number}
use Rattle.sets.specs.Rules.{CountAllowed, numbers_allowed, walk_time_allowed}
use Rattle.sets.specs.Judged.{zeros}
use Rattle.sets.proofs.SetLaws.{decides_count}
use Rattle.sets.specs.declared.Set.{Set}
use Rattle.plans.specs.Rules.{rules_fit, alloc_in_range}
use Rattle.plans.specs.Planned.{judged_plan}
use Rattle.plans.proofs.PlanLaws.{given_0, given_4, given_5, given_7}
use Rattle.plans.specs.declared.Alloc.{Alloc}
use Rattle.fields.specs.Rows.{rows}
use Rattle.fields.specs.Bytes.{bytes_of, body_of, AllBytes}
use Rattle.fields.specs.Fields.{further_size, tag_at, size_at, allowed_at}
use Rattle.fields.proofs.SegmentLaws.{stands_itself}
use Rattle.fields.specs.declared.Passed.{Passed}
use Rattle.field_reader.specs.FirstFault.{WellFormed, WholeSheet, not_allowed as not-allowed-in-plan}
use Rattle.field_reader.specs.declared.Scanned.{Scanned}
use Rattle.field_reader.proofs.ScannedLaws.{zero_or_not, end_there}
use Rattle.field_reader.proofs.PassedLaws.{through}
use Rattle.log_records.specs.Visit.{visit_bytes, visit_at, VisitFits}
use Rattle.log_records.specs.Mark.{mark_bytes, mark_at, MarkFits}
use Rattle.log_records.specs.Entry.{entry_bytes, EntryFits, next_entry}
use Rattle.log_records.specs.declared.VisitEntry.{VisitEntry}
use Rattle.log_records.specs.declared.MarkEntry.{MarkEntry}
use Rattle.log_records.specs.declared.Entry.{Entry}
use Rattle.log_records.specs.declared.Entry.TheVariants.{Visit, Mark}
use Rattle.log_records.proofs.VisitLaws.{visit_length_lem, visit_there, there_visit, stands_visit, stands_read}
use Rattle.log_records.proofs.MarkLaws.{mark_length_lem, mark_there, there_mark, stands_mark, mark_read}
use Rattle.log_records.proofs.EntryLaws.{Standing, a_visit_lem, a_mark_lem, nothing, standing, handed_visit, handed_mark, handed_none}
use Rattle.sheets.specs.Layout.{mark, head_up_to, further_bytes, station_with, allocation_with, fields_of, fields_length, end_bytes, sheet_of, plan_sheet, sheet_length}
use Rattle.sheets.specs.Reading.{set_in, alloc_in, judged_sheet, read_plan}
use Rattle.sheets.proofs.ReadLaws.{then_none, sheet_accepted}
use Rattle.sheets.specs.Writing.{write_answer, plan_written}
use Rattle.sheets.specs.declared.Written.{Written}
use Rattle.sheets.proofs.WritingLaws.{fields_long, answer_number, answer_refused, buffer_refused}
use Rattle.sheet_rules.specs.Promised.{first_places, first_allocations, plan_length, small_set}
use Rattle.sheet_rules.proofs.BackLaws.{behind_all}
use Rattle.sheet_rules.proofs.Promised.{not_low, promised as sheets-promised}
use Rattle.rings.specs.declared.VisitRecord.{VisitRecord}
use Rattle.logs.specs.Layout.{entries_bytes, log_of, AllFit}
use Rattle.logs.specs.Walked.{log_walked}
use Rattle.logs.specs.FirstFault.{LogFault, no_start, not_allowed, cut_body, follows, FirstLogFault, WholeLog}
use Rattle.logs.specs.Reading.{log_number, refused_log, read_log, entries_in}
use Rattle.logs.specs.Writing.{begun_with, begin_number, begun, begun_buffer, visit_of, added, added_mark, ended, ended_buffer}
use Rattle.logs.specs.declared.ReadLog.{ReadLog}
use Rattle.logs.specs.declared.Recorder.{Recorder}
use Rattle.logs.specs.declared.Walked.{Walked}
use Rattle.logs.proofs.RecordLaws.{record_there}
use Rattle.logs.proofs.WalkLaws.{record_not_allowed, log_fault_there, log_end_there, log_shape_fault, log_shape_whole}
use Rattle.logs.proofs.ReadingLaws.{read_number_lem, read_refused, number_walk, number_judged}
use Rattle.logs.proofs.WritingLaws.{begun_refused}
use Rattle.promises.specs.Run.{Call, events_of}
use Rattle.log_rules.specs.Recorded.{Told, beginning, recorded, kept_of, end_answer, end_buffer, entry_for, record_for, told_for, told_in, entries_of}
use Rattle.log_rules.specs.Promised.{GivenLog, FieldOf, MarkFieldOf, visit_count, mark_count, Leaves, GivesBack, Promised}
use Rattle.log_rules.proofs.CounterLaws.{counter_rises, counter_wraps, counter_on, counter_clock}
use Rattle.log_rules.proofs.WrittenLaws.{entries_length, log_long, room_short, begins_with, begins_fields, laid_fourteen, leaves_log, keeps_all}
use Rattle.log_rules.proofs.WrittenLaws.{adds_with, adds_field, adds_not, adds_nothing, marks_with, marks_field, marks_not, marks_nothing, ends_with, ends_field}
use Rattle.log_rules.proofs.BackLaws.{cut_short_lem, laid_number, log_back, entries_back}
use Rattle.log_rules.proofs.AgainLaws.{records_first, records_none, went, may_end, counted, was_read, was_whole, was_judged, records_read_lem, log_again, judged_again, entries_fit}
use Rattle.log_rules.proofs.RunLaws.{visit_small, visit_station, entry_says, marking_told, marking_refused, unmarking_told, unmarking_refused, message_untold, run_entries, run_fits}

-- ---- the bytes of a log

none_more : (t : Set) (a : Alloc) → log_of t a [] ≡ plan_sheet t a
unfolding log_of entries_bytes sheet_of
none_more t a = ap (λ (s : List ℕ). s ++ end_bytes) (append-nil (fields_of true t a))

entries_last : (es : List Entry) (e : Entry) → entries_bytes (es ++ (e ∷ [])) ≡ entries_bytes es ++ entry_bytes e
unfolding entries_bytes
entries_last [] e = append-nil (entry_bytes e)
entries_last (d ∷ es) e = ap (λ (s : List ℕ). entry_bytes d ++ s) (entries_last es e) ∙ sym (append_assoc (entry_bytes d) (entries_bytes es) (entry_bytes e))

one_more_lem : (t : Set) (a : Alloc) (es : List Entry) (e : Entry) → log_of t a (es ++ (e ∷ [])) ≡ fields_of true t a ++ entries_bytes es ++ entry_bytes e ++ mark 255 0
unfolding log_of
one_more_lem t a es e =
    ap (λ (s : List ℕ). fields_of true t a ++ s ++ end_bytes) (entries_last es e)
    ∙ ap (λ (s : List ℕ). s ++ end_bytes) (sym (append_assoc (fields_of true t a) (entries_bytes es) (entry_bytes e)))

its_field : (v : VisitEntry) → VisitFits v → FieldOf v (visit_bytes v)
its_field v fit =
    let bs = visit_bytes v in
    let itself = stands_itself bs in
    let there = stands_visit bs 0 v itself in
    let reads = stands_read bs 0 v fit itself in
    record {
      tag = there.has_tag;
      size = there.has_size;
      station = ap (λ (x : VisitEntry). x.station) reads;
      start = ap (λ (x : VisitEntry). x.start) reads;
      limit = ap (λ (x : VisitEntry). x.limit) reads;
      synchronous = ap (λ (x : VisitEntry). x.synchronous) reads;
      asynchronous = ap (λ (x : VisitEntry). x.asynchronous) reads;
      long = visit_length_lem v;
    }

mark_s_field : (m : MarkEntry) → MarkFits m → MarkFieldOf m (mark_bytes m)
mark_s_field m fit =
    let bs = mark_bytes m in
    let itself = stands_itself bs in
    let there = stands_mark bs 0 m itself in
    let reads = mark_read bs 0 m fit itself in
    record {
      tag = there.has_tag;
      size = there.has_size;
      station = ap (λ (x : MarkEntry). x.station) reads;
      mark = ap (λ (x : MarkEntry). x.mark) reads;
      long = mark_length_lem m;
    }

kinds : (es : List Entry) → visit_count es + mark_count es ≡ length es
kinds [] = refl
kinds (Visit v ∷ es) = omega (arith, kinds es)
kinds (Mark m ∷ es) = omega (arith, kinds es)

small_written : log_of (small_set timely 1 1) (record { s = zeros }) (Visit (record { station = 0; start = 4_294_967_295; limit = 1; synchronous = 2; asynchronous = 259 }) ∷ [])
    ≡ 1 ∷ 0 ∷ 4 ∷ 0 ∷ 0 ∷ 0 ∷ 1
    ∷ 2 ∷ 0 ∷ 16 ∷ 0 ∷ 0 ∷ 0 ∷ 1 ∷ 0 ∷ 0 ∷ 0 ∷ 0 ∷ 0 ∷ 0 ∷ 0 ∷ 1 ∷ 0 ∷ 0 ∷ 0 ∷ 1
    ∷ 3 ∷ 0 ∷ 4 ∷ 0 ∷ 0 ∷ 0 ∷ 0
    ∷ 16 ∷ 0 ∷ 17 ∷ 0 ∷ 255 ∷ 255 ∷ 255 ∷ 255 ∷ 0 ∷ 0 ∷ 0 ∷ 1 ∷ 0 ∷ 0 ∷ 0 ∷ 2 ∷ 0 ∷ 0 ∷ 1 ∷ 3
    ∷ 255 ∷ 0 ∷ 0 ∷ []
unfolding log_of entries_bytes visit_bytes head_up_to head_number further_bytes body_of further_size station_with allocation_with rows bytes_of fill
small_written = refl

mark_written : entries_bytes (Mark (record { station = 3; mark = 1 }) ∷ []) ≡ 17 ∷ 0 ∷ 2 ∷ 3 ∷ 1 ∷ []
unfolding entries_bytes mark_bytes
mark_written = refl

-- ---- writing

module _ (t : Set) (a : Alloc) (counter clock : ℕ) (out : List ℕ) where
  -- a plan that is accepted and fits
  module _ (judged_0 : judged_plan t a ≡ 0) (fits : plan_length t ≤ length out) where
    sheet_fits : sheet_length true t ≤ length out
    sheet_fits = omega arith

    left : (xs : List Told) → Leaves t a out (map (entry_for counter clock) (kept_of (beginning t a counter clock out) xs)) (recorded (beginning t a counter clock out) xs)
    left xs =
        let es = map (entry_for counter clock) (kept_of (beginning t a counter clock out) xs) in
        let all = leaves_log t a counter clock out judged_0 sheet_fits xs in
        let long : length (log_of t a (map (entry_for counter clock) (kept_of (beginning t a counter clock out) xs))) ≡ plan_length t + length (entries_bytes (map (entry_for counter clock) (kept_of (beginning t a counter clock out) xs))) =
        omega (arith, log_long t a es) in
        record {
          answer = all.0 ∙ ap (λ (n : ℕ). record { length = n; number = 0 }) long;
          buffer = all.1 ∙ ap (λ (n : ℕ). log_of t a es ++ drop n out) long;
        }

    fields_laid : (begun t a counter clock out ≡ record { at = plan_length t - 3; clock = clock; counter = counter; number = 0 })
        × (begun_buffer t a out ≡ fields_of true t a ++ drop (plan_length t - 3) out)
    fields_laid =
        let place : length (fields_of true t a) ≡ plan_length t - 3 = omega (arith, fields_long true t a) in
        let long = fields_long true t a in (
          begins_with t a counter clock out judged_0 sheet_fits ∙ ap (λ (n : ℕ). record { at = n; clock = clock; counter = counter; number = 0 }) (sym long ∙ place),
          begins_fields t a counter clock out judged_0 sheet_fits ∙ ap (λ (n : ℕ). fields_of true t a ++ drop n out) place,
        )

  all_of_them : (xs : List Told) → judged_plan t a ≡ 0 → plan_length t + length (entries_bytes (map (entry_for counter clock) xs)) ≤ length out → kept_of (beginning t a counter clock out) xs ≡ xs
  all_of_them xs judged_0 room = keeps_all t a counter clock out judged_0 (omega arith) xs (omega arith)

  -- the number of a beginning is that of writing the plan
  begin_number_lem : (begun t a counter clock out).number ≡ begin_number t a (length out)
  unfolding begun_with
  begin_number_lem = go (begin_number t a (length out)) _
    where
      go : (k at : ℕ) → (begun_with k at clock counter).number ≡ k
      go zero at = refl
      go (suc k) at = refl

  as_plan : (begun t a counter clock out).number ≡ (plan_written t a out).answer.number
  as_plan = begin_number_lem ∙ sym (answer_number _ (sheet_length true t))

  begin_short : ((begun t a counter clock out).number ≡ 14) ↔ ((judged_plan t a ≡ 0) × (length out < plan_length t))
  begin_short = (λ h. (sheets-promised.plan_fourteen t a out).0 (sym as_plan ∙ h), λ h. as_plan ∙ (sheets-promised.plan_fourteen t a out).1 h)

  begin_not : (begun t a counter clock out).number ≢ 0
      → (begun t a counter clock out ≡ record { at = 0; clock = 0; counter = 0; number = (begun t a counter clock out).number }) × (begun_buffer t a out ≡ out)
  begin_not h =
      let some : begin_number t a (length out) ≢ 0 = λ z. h (begin_number_lem ∙ z) in (
        begun_refused _ (fields_length true t) clock counter some ∙ ap (λ (k : ℕ). record { at = 0; clock = 0; counter = 0; number = k }) (sym begin_number_lem),
        buffer_refused _ (fields_of true t a) out some,
      )

-- 14 or 0, exactly by the room
module _ (number end room : ℕ) (short : room < end → number ≡ 14) (fits : end ≤ room → number ≡ 0) where
  fourteen : (number ≡ 14) ↔ (room < end)
  fourteen = (λ e. ⊎_elim (λ (l : room < end). l) (λ (l : end ≤ room). absurd (omega (arith, fits l))) (below_or_not room end), short)

  fitted : (number ≡ 0) ↔ (end ≤ room)
  fitted = (λ e. ⊎_elim (λ (l : room < end). absurd (omega (arith, short l))) (λ (l : end ≤ room). l) (below_or_not room end), fits)

module _ (r : Recorder) (v : VisitRecord) (out : List ℕ) where
  add_short : length out < r.at + 23 → (added r v out).number ≡ 14
  add_short l = ap (λ (x : Recorder). x.number) (adds_not r v out l)

  add_fits : r.at + 23 ≤ length out → (added r v out).number ≡ 0
  add_fits l = ap (λ (x : Recorder). x.number) (adds_with r v out l)

module _ (r : Recorder) (out : List ℕ) where
  mark_short : length out < r.at + 8 → (added_mark r out).number ≡ 14
  mark_short l = ap (λ (x : Recorder). x.number) (marks_not r out l)

  mark_goes : r.at + 8 ≤ length out → (added_mark r out).number ≡ 0
  mark_goes l = ap (λ (x : Recorder). x.number) (marks_with r out l)

  end_not : length out < r.at + 3 → (ended r out ≡ record { length = 0; number = 14 }) × (ended_buffer r out ≡ out)
  end_not l =
      let e = room_short (r.at + 3) (length out) l in
      (ap (λ (k : ℕ). write_answer k (r.at + 3)) e ∙ answer_refused 14 (r.at + 3) (λ z. absurd (omega arith)), laid_fourteen out r.at end_bytes _ e)

-- ---- reading

-- one of four numbers, by the tests of the judgement
judged_of : (t : Set) (a : Alloc) → CountAllowed t → let k = judged_plan t a in (k ≡ 0) ⊎ ((k ≡ 4) ⊎ ((k ≡ 5) ⊎ (k ≡ 7)))
judged_of t a count =
    let counts = (decides_count t).1 count in
    ⊎_elim (λ (n : (numbers_allowed t && alloc_in_range t (at a.s)) ≡ true).
    ⊎_elim (λ (w : walk_time_allowed t ≡ true).
    ⊎_elim (λ (r : rules_fit t (at a.s) ≡ true). inl (given_0 t a counts n w r)) (λ (r : rules_fit t (at a.s) ≡ false). inr (inr (inr (given_7 t a counts n w r))))
    (true_or_false (rules_fit t (at a.s))))
    (λ (w : walk_time_allowed t ≡ false). inr (inr (inl (given_5 t a counts n w))))
    (true_or_false (walk_time_allowed t)))
    (λ (n : (numbers_allowed t && alloc_in_range t (at a.s)) ≡ false). inr (inl (given_4 t a counts n)))
    (true_or_false (numbers_allowed t && alloc_in_range t (at a.s)))

module _ (bs : List ℕ) where
  -- no fault: the judgement, which is never 1, 2 or 3
  whole_judged : WholeLog bs → (read_log bs).number ≡ judged_plan (set_in true bs) (alloc_in true bs)
  whole_judged w = read_number_lem bs ∙ number_judged bs (ap (λ (r : Walked). r.number) (log_end_there bs w))

  whole_one : WholeLog bs → let k = (read_log bs).number in (k ≡ 0) ⊎ ((k ≡ 4) ⊎ ((k ≡ 5) ⊎ (k ≡ 7)))
  whole_one w = rw (whole_judged w) (judged_of (set_in true bs) (alloc_in true bs) (counted bs w))

  judged_high : WholeLog bs → (k : ℕ) → 1 ≤ k → k ≤ 3 → (read_log bs).number ≢ k
  unfolding judged_sheet
  judged_high w k low high h = not_low true (set_in true bs) (alloc_in true bs) k (counted bs w) low high (sym (whole_judged w) ∙ h)

  fault_exactly : (k : ℕ) → 1 ≤ k → k ≤ 3 → ((read_log bs).number ≡ k) ↔ FirstLogFault bs k
  fault_exactly k low high = (
    λ h.
        ⊎_elim (λ (z : (log_walked bs).number ≡ 0). absurd (judged_high (log_shape_whole bs z) k low high h))
        (λ (z : (log_walked bs).number ≢ 0). log_shape_fault bs k (omega arith) (sym (number_walk bs z) ∙ sym (read_number_lem bs) ∙ h))
        (zero_or_not (log_walked bs).number),
    λ f.
        let e : (log_walked bs).number ≡ k = ap (λ (r : Walked). r.number) (log_fault_there bs k f) in
        let some : (log_walked bs).number ≢ 0 = λ z. absurd (omega arith) in
        read_number_lem bs ∙ number_walk bs some ∙ e,
  )

  -- no fault has a number above 3
  fault_low : (a : ℕ) (p : Passed) (k : ℕ) → LogFault bs a p k → (1 ≤ k) × (k ≤ 3)
  fault_low a p _ (no_start short) = (omega arith, omega arith)
  fault_low a p _ (not_allowed three wrong) = (omega arith, omega arith)
  fault_low a p _ (cut_body three may cut) = (omega arith, omega arith)
  fault_low a p _ (follows e w m) = (omega arith, omega arith)

  whole_exactly : ((k : ℕ) → 1 ≤ k → k ≤ 3 → (read_log bs).number ≢ k) ↔ WholeLog bs
  whole_exactly = (
    λ none.
        ⊎_elim (λ (z : (log_walked bs).number ≡ 0). log_shape_whole bs z)
        (λ (z : (log_walked bs).number ≢ 0).
        let f = log_shape_fault bs (log_walked bs).number z refl in
        let low = fault_low f.place f.passed (log_walked bs).number f.fault in
        absurd (none (log_walked bs).number low.0 low.1 (read_number_lem bs ∙ number_walk bs z)))
        (zero_or_not (log_walked bs).number),
    judged_high,
  )

  is_blank_lem : (read_log bs).number ≢ 0 → read_log bs ≡ refused_log (read_log bs).number
  is_blank_lem h =
      let some : log_number bs ≢ 0 = λ z. h (read_number_lem bs ∙ z) in
      read_refused bs (log_number bs) some refl ∙ ap refused_log (sym (read_number_lem bs))

module _ (bs : List ℕ) (a : ℕ) where
  handed_whole : a + 20 ≤ length bs → tag_at bs a ≡ 16 → size_at bs a ≡ 17 → next_entry bs a ≡ record { entry = Visit (visit_at bs a); next = a + 20 }
  handed_whole inside tag size = handed_visit bs a (there_visit bs a (record { inside = inside; has_tag = tag; has_size = size }))

  mark_whole : a + 5 ≤ length bs → tag_at bs a ≡ 17 → size_at bs a ≡ 2 → next_entry bs a ≡ record { entry = Mark (mark_at bs a); next = a + 5 }
  mark_whole inside tag size = handed_mark bs a (there_mark bs a (record { inside = inside; has_tag = tag; has_size = size }))

  neither : ¬ ((a + 20 ≤ length bs) × ((tag_at bs a ≡ 16) × (size_at bs a ≡ 17))) → ¬ ((a + 5 ≤ length bs) × ((tag_at bs a ≡ 17) × (size_at bs a ≡ 2)))
      → next_entry bs a ≡ record { entry = Visit (record { station = 0; start = 0; limit = 0; synchronous = 0; asynchronous = 0 }); next = 0 }
  neither no_visit no_mark = go (standing bs a)
    where
      go : Standing bs a → next_entry bs a ≡ record { entry = Visit (record { station = 0; start = 0; limit = 0; synchronous = 0; asynchronous = 0 }); next = 0 }
      go (a_visit_lem h) = let v = visit_there bs a h in absurd (no_visit (v.inside, (v.has_tag, v.has_size)))
      go (a_mark_lem h) = let m = mark_there bs a h in absurd (no_mark (m.inside, (m.has_tag, m.has_size)))
      go (nothing v m) = handed_none bs a v m

-- ---- read back, and written again

given_back : (t : Set) (a : Alloc) (es : List Entry) → judged_plan t a ≡ 0 → AllFit es → GivesBack t a es (log_of t a es)
given_back t a es h fit =
    let place : behind_all true t ≡ plan_length t - 3 = omega arith in
    record {
      answer = log_back t a es h ∙ ap (λ (n : ℕ). record { set = first_places t; alloc = first_allocations t.n a; first = n; records = length es; number = 0 }) place;
      entries = entries_back t a es h fit;
    }

-- what is told for an entry gives the entry again
visit_again : (v : VisitEntry) → VisitFits v → visit_of 0 0 (record_for v) ≡ v
visit_again v fit =
    let station : v.station % 256 ≡ v.station = mod-eq_of_lt fit.station in
    let start : (0 + v.start) % 2 ^ 32 ≡ v.start = omega (arith, fit.start) in
    let limit : v.limit % 2 ^ 32 ≡ v.limit = mod-eq_of_lt fit.limit in
    let synchronous : v.synchronous % 2 ^ 32 ≡ v.synchronous = mod-eq_of_lt fit.synchronous in
    let asynchronous : v.asynchronous % 2 ^ 32 ≡ v.asynchronous = mod-eq_of_lt fit.asynchronous in
    rw (counter_clock 0 v.start, station, start, limit, synchronous, asynchronous) refl

entry_again : (e : Entry) → EntryFits e → entry_for 0 0 (told_for e) ≡ e
entry_again (Visit v) fit = ap Visit (visit_again v fit)
entry_again (Mark m) fit = refl

entries_again : (es : List Entry) → AllFit es → map (entry_for 0 0) (map told_for es) ≡ es
entries_again [] fit = refl
entries_again (e ∷ es) fit = rw (entry_again e fit.0, entries_again es fit.1) refl

module _ (bs : List ℕ) (bytes : AllBytes bs) (h : (read_log bs).number ≡ 0) where
  log_size : length bs ≡ plan_length (read_log bs).set + length (entries_bytes (entries_in bs))
  log_size = ap length (log_again bs bytes h) ∙ omega (arith, log_long (read_log bs).set (read_log bs).alloc (entries_in bs))

  same_bytes_lem : (out : List ℕ) → length bs ≤ length out
      → let s = recorded (beginning (read_log bs).set (read_log bs).alloc 0 0 out) (map told_for (entries_in bs)) in
      (end_answer s ≡ record { length = length bs; number = 0 }) × (end_buffer s ≡ bs ++ drop (length bs) out)
  same_bytes_lem out fit =
      let t = (read_log bs).set in
      let a = (read_log bs).alloc in
      let es = entries_in bs in
      let xs = map told_for es in
      let long = log_size in
      let told : map (entry_for 0 0) (map told_for (entries_in bs)) ≡ entries_in bs = entries_again es (entries_fit bs bytes h) in
      let many : length (entries_bytes (map (entry_for 0 0) (map told_for (entries_in bs)))) ≡ length (entries_bytes (entries_in bs)) = ap (λ (l : List Entry). length (entries_bytes l)) told in
      let judged_0 = judged_again bs h in
      let all = leaves_log t a 0 0 out judged_0 (omega arith) xs in
      let kept : kept_of (beginning (read_log bs).set (read_log bs).alloc 0 0 out) (map told_for (entries_in bs)) ≡ map told_for (entries_in bs) = all_of_them t a 0 0 out xs judged_0 (omega arith) in
      let same : log_of t a (map (entry_for 0 0) (kept_of (beginning t a 0 0 out) xs)) ≡ bs =
      ap (λ (l : List Told). log_of t a (map (entry_for 0 0) l)) kept ∙ ap (log_of t a) told ∙ sym (log_again bs bytes h) in
      (all.0 ∙ ap (λ (l : List ℕ). record { length = length l; number = 0 }) same, all.1 ∙ ap (λ (l : List ℕ). l ++ drop (length l) out) same)

  given : GivenLog bs
  given =
      let t = (read_log bs).set in
      let a = (read_log bs).alloc in
      let again = same_bytes_lem bs (omega arith) in
      let long = log_size in
      record {
        set = t;
        alloc = a;
        counter = 0;
        clock = 0;
        told = map told_for (entries_in bs);
        out = bs;
        begins = ap (λ (x : Recorder). x.number) (begins_with t a 0 0 bs (judged_again bs h) (omega arith));
        gives = sym (rw (again.0, again.1) (take_at bs _ (length bs) refl));
      }

-- bytes that a recording gave are accepted
given_read : (bs : List ℕ) → GivenLog bs → (read_log bs).number ≡ 0
unfolding judged_sheet
given_read bs g =
    let t = g.set in
    let a = g.alloc in
    let zero-then = then_none _ _ (sym (begin_number_lem t a g.counter g.clock g.out) ∙ g.begins) in
    let fit : sheet_length true g.set ≤ length g.out = leb-true _ _ (passed _ 14 _ (omega arith) zero-then.1).0 in
    let all = leaves_log t a g.counter g.clock g.out zero-then.0 fit g.told in
    let es = map (entry_for g.counter g.clock) (kept_of (beginning t a g.counter g.clock g.out) g.told) in
    let is : bs ≡ log_of t a es = g.gives ∙ rw (all.0, all.1) (take_at (log_of t a es) _ (length (log_of t a es)) refl) in
    ap (λ (l : List ℕ). (read_log l).number) is ∙ ap (λ (r : ReadLog). r.number) (log_back t a es zero-then.0)

-- ---- a log and a plan sheet

module _ (bs : List ℕ) (h : (read_log bs).number ≡ 0) where
  -- the first record may not stand in a plan sheet
  no_plan_sheet : (read_log bs).records ≢ 0 → (read_plan bs).number ≡ 2
  no_plan_sheet some =
      let w = was_whole bs h in
      let by = went bs w in
      let p = w.passed in
      let a = by.first in
      let v = record_there bs a (records_first bs _ _ _ by.each (λ z. some (records_read_lem bs h ∙ z))) in
      let wrong : allowed_at bs (went bs (was_whole bs h)).first (was_whole bs h).passed ≡ false = record_not_allowed bs a p (through true bs p a by.plan).kind (may_end bs w) v.here in
      (sheets-promised.plan_fault bs 2 (omega arith) (omega arith)).1 (record { passed = p; place = a; before = by.plan; fault = not-allowed-in-plan (omega (arith, v.inside, v.some)) wrong })

  -- without a record it is one
  a_plan_sheet : (read_log bs).records ≡ 0 → read_plan bs ≡ record { set = (read_log bs).set; alloc = (read_log bs).alloc; number = 0 }
  unfolding judged_sheet
  a_plan_sheet none =
      let w = was_whole bs h in
      let by = went bs w in
      let here : (went bs (was_whole bs h)).first ≡ (was_whole bs h).place = records_none bs _ _ _ by.each (sym (records_read_lem bs h) ∙ none) in
      let sheet : WholeSheet true bs =
      record {
        passed = w.passed;
        place = w.place;
        before = subst (WellFormed true bs w.passed) here by.plan;
        end_whole = w.end_whole;
        end_tag_lem = w.end_tag_lem;
        nothing_follows = w.nothing_follows;
      } in
      sheet_accepted true bs (ap (λ (r : Scanned). r.number) (end_there true bs sheet)) (was_judged bs h)
      ∙ ap (λ (r : ReadLog). record { set = r.set; alloc = r.alloc; number = 0 }) (sym (was_read bs h))

-- ---- from the model

run_left : (t : Set) (a : Alloc) (counter : ℕ) (calls : List Call) (out : List ℕ) → judged_plan t a ≡ 0 → plan_length t + length (entries_bytes (entries_of counter t a calls)) ≤ length out
    → Leaves t a out (entries_of counter t a calls) (recorded (beginning t a counter 0 out) (reverse (told_in (events_of t a calls))))
run_left t a counter calls out judged_0 room =
    let xs = reverse (told_in (events_of t a calls)) in
    let said : map (entry_for counter 0) (reverse (told_in (events_of t a calls))) ≡ entries_of counter t a calls = run_entries t a counter calls in
    let many : length (entries_bytes (map (entry_for counter 0) (reverse (told_in (events_of t a calls))))) ≡ length (entries_bytes (entries_of counter t a calls)) = ap (λ (l : List Entry). length (entries_bytes l)) said in
    let kept = all_of_them t a counter 0 out xs judged_0 (omega arith) in
    subst (λ (es : List Entry). Leaves t a out es (recorded (beginning t a counter 0 out) (reverse (told_in (events_of t a calls))))) (ap (map (entry_for counter 0)) kept ∙ said) (left t a counter 0 out judged_0 (omega arith) xs)

pub promised : Promised
promised =
    record {
      no_record_lem = none_more;
      a_record = one_more_lem;
      field = its_field;
      mark_field = mark_s_field;
      long = λ t a es. omega (arith, log_long t a es);
      entries_long = entries_length;
      two_kinds = kinds;
      written_out = small_written;
      mark_written_out = mark_written;
      counter_rises = counter_rises;
      counter_wraps = counter_wraps;
      counter_on = counter_on;
      recorded_log = λ t a counter clock out vs judged_0 fits. left t a counter clock out judged_0 fits vs;
      all_kept = all_of_them;
      begin_refused = λ t a counter clock out h. as_plan t a counter clock out ∙ sheets-promised.plan_refused_lem t a out h;
      begin_fourteen = begin_short;
      begin_blank = begin_not;
      begin_fields = fields_laid;
      add_fourteen = λ r v out. fourteen _ (r.at + 23) (length out) (add_short r v out) (add_fits r v out);
      add_accepted = λ r v out. fitted _ (r.at + 23) (length out) (add_short r v out) (add_fits r v out);
      add_unchanged = λ r v out l. (adds_not r v out l, adds_nothing r v out l);
      add_field = λ r v out l. (adds_with r v out l, adds_field r v out l);
      mark_fourteen = λ r out. fourteen _ (r.at + 8) (length out) (mark_short r out) (mark_goes r out);
      mark_accepted = λ r out. fitted _ (r.at + 8) (length out) (mark_short r out) (mark_goes r out);
      mark_unchanged = λ r m out l. (marks_not r out l, marks_nothing r out m l);
      mark_laid = λ r m out l. (marks_with r out l, marks_field r out m l);
      end_fourteen = λ r out.
          fourteen _ (r.at + 3) (length out) (λ l. ap (λ (x : Written). x.number) (end_not r out l).0) (λ l. ap (λ (x : Written). x.number) (ends_with r out l));
      end_unchanged = end_not;
      end_field = λ r out l. (ends_with r out l, ends_field r out l);
      fault = fault_exactly;
      one_fault = λ bs j k f g.
          let e = sym (log_fault_there bs j f) ∙ log_fault_there bs k g in
          (ap (λ (r : Walked). r.number) e, ap (λ (r : Walked). r.at) e);
      whole = whole_exactly;
      judged = whole_judged;
      judged_one = whole_one;
      blank = is_blank_lem;
      handed = handed_whole;
      mark_handed = mark_whole;
      not_handed = neither;
      back = given_back;
      laid_out = λ t a es count small shares. laid_number t a es count small shares;
      no_end = λ t a es count. (fault_exactly (fields_of true t a ++ entries_bytes es) 1 (omega arith) (omega arith)).1 (cut_short_lem t a es count);
      again = λ bs bytes h. (log_again bs bytes h, (judged_again bs h, entries_fit bs bytes h));
      recorded_again = λ bs out bytes h fit. same_bytes_lem bs bytes h out fit;
      exactly = λ bs bytes. (given bs bytes, given_read bs);
      no_plan = no_plan_sheet;
      a_plan = a_plan_sheet;
      visit_entry = λ r ask counter clock h. (entry_says _ (visit_small r ask h) counter clock, visit_station r ask h);
      marking_told = marking_told;
      unmarking_told = unmarking_told;
      marking_refused = marking_refused;
      unmarking_refused = unmarking_refused;
      message_untold = message_untold;
      run_recorded = run_left;
      run_back = λ t a counter calls judged_0. given_back t a (entries_of counter t a calls) judged_0 (run_fits t a counter calls);
    }
