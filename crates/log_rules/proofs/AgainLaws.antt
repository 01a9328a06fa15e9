-- What was read is the log of what was read: the fields by which the walk went stand in the bytes with the numbers that were read from them.
use Prim.Native.Nat.{ℕ, suc, ◌+◌, ◌≤◌}
use mathlib.Core.Path.{◌≡◌, refl, sym, ap, subst, subst₂, ◌∙◌}
use mathlib.Core.Bool.{true}
use mathlib.Core.List.{List, ◌++◌}
use mathlib.Core.Logic.{◌≢◌}
use native.Mathlib.Omega.{arith}
use lib.ListN.{length, length-append}
use Rattle.sets.specs.Header.{head_number}
use Rattle.sets.specs.Rules.{CountAllowed}
use Rattle.plans.specs.Planned.{judged_plan}
use Rattle.fields.specs.Bytes.{AllBytes}
use Rattle.fields.specs.Fields.{size_at}
use Rattle.fields.proofs.FieldLaws.{Whole}
use Rattle.fields.proofs.SegmentLaws.{Stands, stands_whole, stands_join}
use Rattle.fields.specs.declared.Passed.{Passed}
use Rattle.field_reader.specs.Scanned.{scanned}
use Rattle.field_reader.specs.FirstFault.{WellFormed}
use Rattle.field_reader.proofs.ScannedLaws.{stopped}
use Rattle.field_reader.proofs.PassedLaws.{AllPassed, all_passed, end_short}
use Rattle.log_records.specs.Entry.{entry_bytes, next_entry}
use Rattle.sheets.specs.Layout.{fields_of, end_bytes}
use Rattle.sheets.specs.Reading.{plan_passed, head_in, set_in, alloc_in, judged_sheet}
use Rattle.sheets.proofs.ReadLaws.{then_none, judged_kept}
use Rattle.sheets.proofs.ReadingLaws.{head_ranges}
use Rattle.sheet_rules.proofs.StandLaws.{mark_stands_lem}
use Rattle.sheet_rules.proofs.BackLaws.{fields_together, fields_behind}
use Rattle.sheet_rules.proofs.AgainLaws.{read_behind, read_fields}
use Rattle.logs.specs.Records.{record_size}
use Rattle.logs.specs.Layout.{entries_bytes, log_of, AllFit}
use Rattle.logs.specs.Walked.{log_walked}
use Rattle.logs.specs.FirstFault.{LogFormed, in_plan, a_record, WholeLog}
use Rattle.logs.specs.Reading.{read_log, handed_from, entries_in}
use Rattle.logs.specs.declared.ReadLog.{ReadLog}
use Rattle.logs.specs.declared.Walked.{Walked}
use Rattle.logs.proofs.RecordLaws.{record_there, whole_record, handed_out_lem}
use Rattle.logs.proofs.WalkLaws.{plan_stops, end_may, log_shape_whole, log_end_there}
use Rattle.logs.proofs.ReadingLaws.{read_number_lem, read_accepted}

-- ---- records by which the walk went

-- so many records stand one behind the other, from one place to another
pub data Records (bs : List ℕ) : ℕ → ℕ → ℕ → Type 0 where
  none : {a : ℕ} → Records bs 0 a a
  one_more_lem : {n b a : ℕ} → record_size bs b ≢ 0 → Records bs n (b + record_size bs b) a → Records bs (suc n) b a

-- one more stands behind them
records_on : (bs : List ℕ) (n b a : ℕ) → Records bs n b a → record_size bs a ≢ 0 → Records bs (suc n) b (a + record_size bs a)
records_on bs _ _ _ none some = one_more_lem some none
records_on bs _ _ _ (one_more_lem {n} {b} {a} first rest) some = one_more_lem first (records_on bs n (b + record_size bs b) a rest some)

-- the first of them
pub records_first : (bs : List ℕ) (n b a : ℕ) → Records bs n b a → n ≢ 0 → record_size bs b ≢ 0
records_first bs _ _ _ none many = absurd (many refl)
records_first bs _ _ _ (one_more_lem first rest) many = first

-- there is none
pub records_none : (bs : List ℕ) (n b a : ℕ) → Records bs n b a → n ≡ 0 → b ≡ a
records_none bs _ _ _ none z = refl
records_none bs _ _ _ (one_more_lem first rest) z = absurd (omega arith)

-- the plan's fields end at the first place, and the records stand from there on
pub record Behind (bs : List ℕ) (p : Passed) (n a : ℕ) : Type 0 where
  pub first : ℕ
  pub plan : WellFormed true bs p first
  pub each : Records bs n first a

records_of_lem : (bs : List ℕ) (p : Passed) (n a : ℕ) → LogFormed bs p n a → Behind bs p n a
records_of_lem bs p _ _ (in_plan {a} before) = record { first = a; plan = before; each = none }
records_of_lem bs p _ _ (a_record {n} {a} before passed v inside) =
    let so_far = records_of_lem bs p n a before in
    let some = whole_record bs a v inside in
    let count : suc n ≡ n + 1 = omega arith in
    record {
      first = so_far.first;
      plan = so_far.plan;
      each = subst₂ (λ (m b : ℕ). Records bs m so_far.first b) count (sym (record_there bs a some).next) (records_on bs n so_far.first a so_far.each some);
    }

-- the entries that are handed out, and their fields stand in the bytes, up to the place where the records end
module _ (bs : List ℕ) (bytes : AllBytes bs) where
  handed_stand : (n b a : ℕ) → Records bs n b a → a ≤ length bs
      → Stands bs b (entries_bytes (handed_from n bs b)) × ((length (handed_from n bs b) ≡ n) × (AllFit (handed_from n bs b) × (a ≡ b + length (entries_bytes (handed_from n bs b)))))
  unfolding handed_from entries_bytes
  handed_stand _ _ _ (none {a}) fit = (record { fits = omega arith; same = λ i l. absurd (omega arith) }, (refl, (tt, omega arith)))
  handed_stand _ _ _ (one_more_lem {n} {b} {a} some rest) fit =
      let out = handed_out_lem bs b some in
      let e = (next_entry bs b).entry in
      let all = handed_stand n (b + record_size bs b) a rest fit in
      let fields = entries_bytes (handed_from n bs (b + record_size bs b)) in
      let place : b + record_size bs b ≡ b + length (entry_bytes (next_entry bs b).entry) = omega (arith, out.long) in
      let tail = subst (λ (c : ℕ). Stands bs c (entries_bytes (handed_from n bs (b + record_size bs b)))) place all.0 in
      rw out.next (
        stands_join bs b (entry_bytes e) fields (out.field bytes) tail,
        (ap suc all.1.0, ((out.fits bytes, all.1.1.0), omega (arith, all.1.1.1, out.long, length-append (entry_bytes e) fields))),
      )

-- ---- a whole log

module _ (bs : List ℕ) (w : WholeLog bs) where
  -- where the walk went: by the plan's fields, and by the records behind them
  pub went : Behind bs w.passed w.records w.place
  went = records_of_lem bs _ _ _ w.before

  pub may_end : plan_passed w.passed ≡ true
  may_end = end_may _ _ _ w.end_whole.allowed w.end_tag_lem

  pub stops : ((scanned true bs).passed ≡ w.passed) × ((scanned true bs).at ≡ went.first)
  stops = plan_stops bs w.passed may_end went.first went.plan

  pub walked : log_walked bs ≡ record { number = 0; records = w.records; at = w.place }
  walked = log_end_there bs w

  all : AllPassed true bs (scanned true bs).passed (scanned true bs).at
  all = all_passed true bs (scanned true bs).passed (scanned true bs).at (stopped true bs).before (ap plan_passed stops.0 ∙ may_end)

  -- so it has 1 to 128 stations
  pub counted : CountAllowed (set_in true bs)
  counted = (all.some, all.few)

  -- the end
  ended : Whole bs w.place 255 0
  ended =
      let size : size_at bs w.place ≡ 0 = end_short _ _ _ w.end_whole.allowed w.end_tag_lem in
      record { inside = omega (arith, w.end_whole.inside); has_tag = w.end_tag_lem; has_size = size }

-- ---- one that is accepted

module _ (bs : List ℕ) (h : (read_log bs).number ≡ 0) where
  both : ((log_walked bs).number ≡ 0) × (judged_plan (set_in true bs) (alloc_in true bs) ≡ 0)
  both = then_none _ _ (sym (read_number_lem bs) ∙ h)

  pub was_read : read_log bs ≡ record { set = set_in true bs; alloc = alloc_in true bs; first = (scanned true bs).at; records = (log_walked bs).records; number = 0 }
  was_read = read_accepted bs (sym (read_number_lem bs) ∙ h)

  pub was_whole : WholeLog bs
  was_whole = log_shape_whole bs both.0

  pub was_judged : judged_plan (set_in true bs) (alloc_in true bs) ≡ 0
  was_judged = both.1

  pub judged_again : judged_plan (read_log bs).set (read_log bs).alloc ≡ 0
  judged_again = rw was_read was_judged

  pub records_read_lem : (read_log bs).records ≡ was_whole.records
  records_read_lem = ap (λ (r : ReadLog). r.records) was_read ∙ ap (λ (r : Walked). r.records) (walked bs was_whole)

module _ (bs : List ℕ) (bytes : AllBytes bs) (h : (read_log bs).number ≡ 0) where
  -- no number of the header is 0
  header : (tag : ℕ) → 1 ≤ head_number (head_in bs) tag
  unfolding judged_sheet
  header tag = (head_ranges (head_in bs) (judged_kept true (set_in true bs) (alloc_in true bs) (was_judged bs h)).numbers.header tag).0

  handed : Stands bs (scanned true bs).at (entries_bytes (handed_from (was_whole bs h).records bs (scanned true bs).at))
      × ((length (handed_from (was_whole bs h).records bs (scanned true bs).at) ≡ (was_whole bs h).records) × (AllFit (handed_from (was_whole bs h).records bs (scanned true bs).at)
      × ((was_whole bs h).place ≡ (scanned true bs).at + length (entries_bytes (handed_from (was_whole bs h).records bs (scanned true bs).at)))))
  handed =
      let w = was_whole bs h in
      let from = subst (λ (b : ℕ). Records bs (was_whole bs h).records b (was_whole bs h).place) (sym (stops bs (was_whole bs h)).1) (went bs w).each in
      handed_stand bs bytes w.records (scanned true bs).at w.place from (omega (arith, (ended bs w).inside))

  entries_are : entries_in bs ≡ handed_from (was_whole bs h).records bs (scanned true bs).at
  entries_are =
      ap (λ (n : ℕ). handed_from n bs (read_log bs).first) (records_read_lem bs h)
      ∙ ap (handed_from (was_whole bs h).records bs) (ap (λ (r : ReadLog). r.first) (was_read bs h))

  pub entries_fit : AllFit (entries_in bs)
  entries_fit = rw entries_are handed.1.1.0

  -- the bytes are the log of what was read
  is_log_lem : bs ≡ log_of (set_in true bs) (alloc_in true bs) (handed_from (was_whole bs h).records bs (scanned true bs).at)
  unfolding log_of
  is_log_lem =
      let p = (scanned true bs).passed in
      let t = set_in true bs in
      let a = alloc_in true bs in
      let es = handed_from (was_whole bs h).records bs (scanned true bs).at in
      let fields = fields_together true t a bs (read_fields true bs bytes p (scanned true bs).at (all bs (was_whole bs h)) header) in
      let here : (scanned true bs).at ≡ 0 + length (fields_of true (set_in true bs) (alloc_in true bs)) =
      read_behind true bs bytes p (scanned true bs).at (all bs (was_whole bs h)) header ∙ sym (fields_behind true t a bs) in
      let entries = subst (λ (b : ℕ). Stands bs b (entries_bytes es)) here handed.0 in
      let both = stands_join bs 0 (fields_of true t a) (entries_bytes es) fields entries in
      let far : (was_whole bs h).place ≡ 0 + length (fields_of true (set_in true bs) (alloc_in true bs) ++ entries_bytes (handed_from (was_whole bs h).records bs (scanned true bs).at)) =
      omega (arith, handed.1.1.1, here, length-append (fields_of true t a) (entries_bytes es)) in
      let end = subst (λ (b : ℕ). Stands bs b end_bytes) far (mark_stands_lem bs (was_whole bs h).place 255 0 bytes (omega arith) (ended bs (was_whole bs h))) in
      stands_whole bs (fields_of true t a ++ entries_bytes es ++ end_bytes) (stands_join bs 0 (fields_of true t a ++ entries_bytes es) end_bytes both end)
      (omega (arith, (was_whole bs h).nothing_follows, (ended bs (was_whole bs h)).has_size, far, length-append (fields_of true t a ++ entries_bytes es) end_bytes))

  pub log_again : bs ≡ log_of (read_log bs).set (read_log bs).alloc (entries_in bs)
  log_again =
      is_log_lem
      ∙ sym (ap (λ (r : ReadLog). log_of r.set r.alloc (entries_in bs)) (was_read bs h) ∙ ap (log_of (set_in true bs) (alloc_in true bs)) entries_are)
