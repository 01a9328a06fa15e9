-- What was laid out is read back: the plan's fields stand at the start, the records' behind them and the end behind these, so the walk goes by all of them.
-- And the numbers that are found are those that were laid.
use Prim.Native.Nat.{ℕ, suc, ◌+◌, ◌^◌, ◌≤◌, ◌<◌}
use mathlib.Core.Path.{◌≡◌, refl, sym, ap, subst, subst₂, ◌∙◌}
use mathlib.Core.Bool.{true}
use mathlib.Core.List.{List, [], ◌∷◌, ◌++◌}
use native.Mathlib.Omega.{arith}
use lib.ListN.{length, length-append}
use borrow.Author.Tests.{le-leb}
use Rattle.units.specs.Places.{at}
use Rattle.sets.specs.Rules.{CountAllowed}
use Rattle.sets.specs.declared.Set.{Set}
use Rattle.plans.specs.Planned.{judged_plan}
use Rattle.plans.specs.declared.Alloc.{Alloc}
use Rattle.fields.specs.Fields.{behind}
use Rattle.fields.proofs.FieldLaws.{Whole, an_end, kind_allowed}
use Rattle.fields.proofs.SegmentLaws.{Stands, stands_itself, stands_left, stands_right}
use Rattle.fields.specs.declared.Passed.{Passed}
use Rattle.field_reader.specs.Scanned.{scanned}
use Rattle.field_reader.specs.FirstFault.{WellFormed}
use Rattle.field_reader.proofs.PassedLaws.{passed_all}
use Rattle.log_records.specs.Entry.{entry_bytes, next_entry}
use Rattle.log_records.specs.declared.Entry.{Entry}
use Rattle.sheets.specs.Layout.{fields_of, end_bytes}
use Rattle.sheets.specs.Reading.{plan_passed, set_of, alloc_of, set_in, alloc_in, judged_sheet}
use Rattle.sheets.proofs.ReadLaws.{judged_kept}
use Rattle.sheet_rules.specs.Promised.{first_places, first_allocations, Numbers32}
use Rattle.sheet_rules.proofs.StandLaws.{whole_stands}
use Rattle.sheet_rules.proofs.BackLaws.{behind_head, behind_all, FieldParts, fields_apart, fields_behind, fields_pass, parts_set, parts_alloc, judged_first, kept_small, kept_allocations}
use Rattle.logs.specs.Layout.{entries_bytes, log_of, AllFit}
use Rattle.logs.specs.Walked.{log_walked}
use Rattle.logs.specs.FirstFault.{LogFormed, in_plan, a_record, no_start, FirstLogFault, WholeLog}
use Rattle.logs.specs.Reading.{log_number, read_log, handed_from, entries_in}
use Rattle.logs.specs.declared.ReadLog.{ReadLog}
use Rattle.logs.specs.declared.Walked.{Walked}
use Rattle.logs.proofs.RecordLaws.{record_there, handed_out_lem, laid_out}
use Rattle.logs.proofs.WalkLaws.{plan_stops, log_end_there}
use Rattle.logs.proofs.ReadingLaws.{read_number_lem, read_accepted, number_judged}
use Rattle.log_rules.proofs.WrittenLaws.{log_long}

-- ---- records that stand one behind the other

module _ (bs : List ℕ) where
  -- they pass
  entries_formed : (p : Passed) → plan_passed p ≡ true → (es : List Entry) (n a : ℕ) → LogFormed bs p n a → Stands bs a (entries_bytes es)
      → LogFormed bs p (n + length es) (a + length (entries_bytes es))
  unfolding entries_bytes
  entries_formed p all [] n a before s =
      let count : n ≡ n + 0 = omega arith in
      let far : a ≡ a + 0 = omega arith in
      subst₂ (LogFormed bs p) count far before
  entries_formed p all (e ∷ es) n a before s =
      let laid = laid_out bs a e (stands_left bs a (entry_bytes e) (entries_bytes es) s) in
      let there = record_there bs a laid.some in
      let place : behind bs a ≡ a + length (entry_bytes e) = there.next ∙ ap (λ (k : ℕ). a + k) laid.size in
      let next = a_record before all there.here (omega (arith, there.next, there.inside)) in
      let all_of_them = entries_formed p all es (n + 1) (a + length (entry_bytes e)) (subst (LogFormed bs p (n + 1)) place next) (stands_right bs a (entry_bytes e) (entries_bytes es) s) in
      let count : n + 1 + length es ≡ n + suc (length es) = omega arith in
      let far : a + length (entry_bytes e) + length (entries_bytes es) ≡ a + length (entry_bytes e ++ entries_bytes es) = omega (arith, length-append (entry_bytes e) (entries_bytes es)) in
      subst₂ (LogFormed bs p) count far all_of_them

  -- and are handed out
  handed_back : (es : List Entry) (a : ℕ) → AllFit es → Stands bs a (entries_bytes es) → handed_from (length es) bs a ≡ es
  unfolding entries_bytes handed_from
  handed_back [] a fit s = refl
  handed_back (e ∷ es) a fit s =
      let laid = laid_out bs a e (stands_left bs a (entry_bytes e) (entries_bytes es) s) in
      let next : (next_entry bs a).next ≡ a + length (entry_bytes e) = (handed_out_lem bs a laid.some).next ∙ ap (λ (k : ℕ). a + k) laid.size in
      rw (laid.handed fit.0, next, handed_back es (a + length (entry_bytes e)) fit.1 (stands_right bs a (entry_bytes e) (entries_bytes es) s)) refl

-- ---- bytes that begin with a plan's fields and its records'

module _ (t : Set) (a : Alloc) (es : List Entry) (count : CountAllowed t) where
  abbrev front : List ℕ
  front = fields_of true t a ++ entries_bytes es

  front_long : 0 + length front ≡ behind_all true t + length (entries_bytes es)
  front_long = omega (arith, fields_behind true t a front, length-append (fields_of true t a) (entries_bytes es))

  module _ (bs : List ℕ) (laid : Stands bs 0 front) where
    parts : FieldParts true bs t a
    parts = fields_apart true t a bs (stands_left bs 0 (fields_of true t a) (entries_bytes es) laid)

    entries_there : Stands bs (behind_all true t) (entries_bytes es)
    entries_there = subst (λ (b : ℕ). Stands bs b (entries_bytes es)) (fields_behind true t a bs) (stands_right bs 0 (fields_of true t a) (entries_bytes es) laid)

    passes : (head : ℕ) × ((1 ≤ head) × WellFormed true bs (passed_all true head (behind_head t) t.n t.n) (behind_all true t))
    passes = fields_pass true bs t a parts count.0 count.1

    abbrev past : Passed
    past = passed_all true passes.0 (behind_head t) t.n t.n

    all_past : plan_passed past ≡ true
    all_past = kind_allowed past 255 0 (an_end refl refl (le-leb 1 passes.0 passes.1.0) count.0 refl)

    all_formed : LogFormed bs past (0 + length es) (behind_all true t + length (entries_bytes es))
    all_formed = entries_formed bs past all_past es 0 (behind_all true t) (in_plan passes.1.1) entries_there

    stops : ((scanned true bs).passed ≡ past) × ((scanned true bs).at ≡ behind_all true t)
    stops = plan_stops bs past all_past (behind_all true t) passes.1.1

  -- without an end the next field has no start
  pub cut_short_lem : FirstLogFault front 1
  cut_short_lem =
      record {
        passed = past front (stands_itself front);
        records = 0 + length es;
        place = behind_all true t + length (entries_bytes es);
        before = all_formed front (stands_itself front);
        fault = no_start (omega (arith, front_long));
      }

  -- ---- a log that was laid out

  abbrev bytes : List ℕ
  bytes = log_of t a es

  begins : Stands bytes 0 front
  unfolding log_of
  begins = stands_left (front ++ end_bytes) 0 front end_bytes (stands_itself (front ++ end_bytes))

  ends : Stands bytes (behind_all true t + length (entries_bytes es)) end_bytes
  unfolding log_of
  ends = subst (λ (b : ℕ). Stands (front ++ end_bytes) b end_bytes) front_long (stands_right (front ++ end_bytes) 0 front end_bytes (stands_itself (front ++ end_bytes)))

  end_there : Whole bytes (behind_all true t + length (entries_bytes es)) 255 0
  end_there = whole_stands bytes _ 255 0 ends (omega (arith, ends.fits))

  laid_whole : WholeLog bytes
  laid_whole =
      let end = end_there in
      let size = end.has_size in
      record {
        passed = past bytes begins;
        records = 0 + length es;
        place = behind_all true t + length (entries_bytes es);
        before = all_formed bytes begins;
        end_whole = record { inside = omega (arith, end.inside, size); allowed = rw (end.has_tag, size) (all_past bytes begins) };
        end_tag_lem = end.has_tag;
        nothing_follows = omega (arith, log_long t a es, size);
      }

  laid_walked : log_walked bytes ≡ record { number = 0; records = 0 + length es; at = behind_all true t + length (entries_bytes es) }
  unfolding laid_whole
  laid_walked = log_end_there bytes laid_whole

  module _ (small : Numbers32 t) (shares : (i : ℕ) → i < t.n → at a.s i < 2 ^ 32) where
    laid_set : set_in true bytes ≡ first_places t
    laid_set = ap (set_of bytes) (stops bytes begins).0 ∙ parts_set true bytes t a (parts bytes begins) count.0 (passes bytes begins).0 t.n small

    laid_alloc : alloc_in true bytes ≡ first_allocations t.n a
    laid_alloc = ap (alloc_of bytes) (stops bytes begins).0 ∙ parts_alloc true bytes t a (parts bytes begins) count.0 (passes bytes begins).0 shares

    laid_judged : judged_plan (set_in true bytes) (alloc_in true bytes) ≡ judged_plan t a
    unfolding judged_sheet
    laid_judged = rw (laid_set, laid_alloc) (judged_first true t a count.1)

    -- reading what was laid out gives the number of its plan's judgement
    pub laid_number : (read_log bytes).number ≡ judged_plan t a
    laid_number = read_number_lem bytes ∙ number_judged bytes (ap (λ (r : Walked). r.number) laid_walked) ∙ laid_judged

    -- and where that is 0, all that was laid out
    laid_read : judged_plan t a ≡ 0 → read_log bytes ≡ record { set = first_places t; alloc = first_allocations t.n a; first = behind_all true t; records = length es; number = 0 }
    laid_read h =
        let z : log_number bytes ≡ 0 = sym (read_number_lem bytes) ∙ laid_number ∙ h in
        let n : 0 + length es ≡ length es = omega arith in
        let records : (log_walked bytes).records ≡ length es = ap (λ (r : Walked). r.records) laid_walked ∙ n in
        read_accepted bytes z ∙ rw (laid_set, laid_alloc, (stops bytes begins).1, records) refl

    laid_entries : judged_plan t a ≡ 0 → AllFit es → entries_in bytes ≡ es
    laid_entries h fit =
        let e = laid_read h in
        ap (λ (n : ℕ). handed_from n bytes (read_log bytes).first) (ap (λ (r : ReadLog). r.records) e)
        ∙ ap (handed_from (length es) bytes) (ap (λ (r : ReadLog). r.first) e)
        ∙ handed_back bytes es (behind_all true t) fit (entries_there bytes begins)

-- ---- read back as written

module _ (t : Set) (a : Alloc) (es : List Entry) (h : judged_plan t a ≡ 0) where
  pub log_back : read_log (log_of t a es) ≡ record { set = first_places t; alloc = first_allocations t.n a; first = behind_all true t; records = length es; number = 0 }
  unfolding judged_sheet
  log_back =
      let k = judged_kept true t a h in
      laid_read t a es k.count (kept_small true t a k) (kept_allocations true t a k) h

  pub entries_back : AllFit es → entries_in (log_of t a es) ≡ es
  unfolding judged_sheet
  entries_back fit =
      let k = judged_kept true t a h in
      laid_entries t a es k.count (kept_small true t a k) (kept_allocations true t a k) h fit
