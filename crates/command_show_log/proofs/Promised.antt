-- Everything that `specs/Promised.antt` lists, proved.
use Prim.Native.Nat.{ℕ, zero, suc, ◌+◌, ◌-◌, ◌≤◌}
use mathlib.Core.Path.{◌≡◌, refl, sym, ap, ◌∙◌}
use mathlib.Core.Bool.{true, false}
use mathlib.Core.List.{List, [], ◌++◌, append-nil}
use mathlib.Core.Logic.{◌⊎◌, inl, inr, ⊎_elim, ◌≢◌}
use native.Mathlib.Omega.{arith}
use borrow.Author.Tests.{eq-eqb, ne_eqb, eqb-false, not-true}
use lib.ListN.{length, drop, take-append-drop}
use lib.Seq.{drop-append-le}
use Rattle.units.proofs.JudgingLaws.{true_or_false, and-true}
use Rattle.sets.specs.declared.Set.{Set}
use Rattle.plans.specs.Planned.{judged_plan}
use Rattle.plans.specs.declared.Alloc.{Alloc}
use Rattle.fields.specs.Fields.{tag_at}
use Rattle.field_reader.specs.Scanned.{scanned}
use Rattle.field_reader.specs.FirstFault.{WholeSheet}
use Rattle.field_reader.specs.declared.Scanned.{Scanned}
use Rattle.field_reader.proofs.ScannedLaws.{end_there, shape_whole}
use Rattle.sheets.specs.Reading.{then_number, judged_sheet, set_in, alloc_in, plan_passed, plan_start, read_sheet, read_plan}
use Rattle.sheets.proofs.ReadLaws.{then_none, sheet_accepted, read_number_lem as sheet-number}
use Rattle.sheets.specs.declared.ReadPlan.{ReadPlan}
use Rattle.sheets.specs.declared.PlanStart.{PlanStart}
use Rattle.sheets.proofs.FirstLaws.{start_same, stays, take_or_all, start_at, start_inside}
use Rattle.sheet_rules.proofs.Promised.{promised as sheet-rules}
use Rattle.log_records.specs.declared.Entry.{Entry}
use Rattle.logs.specs.Records.{record_size}
use Rattle.logs.specs.Walked.{walked, log_walked}
use Rattle.logs.specs.FirstFault.{in_plan, WholeLog}
use Rattle.logs.specs.Reading.{log_number, read_log, handed_from, entries_in}
use Rattle.logs.specs.declared.Walked.{Walked}
use Rattle.logs.specs.declared.ReadLog.{ReadLog}
use Rattle.logs.proofs.RecordLaws.{record_tag, record_there}
use Rattle.logs.proofs.WalkLaws.{not_all_fault, log_end_there}
use Rattle.logs.proofs.ReadingLaws.{read_number_lem, read_accepted, number_judged, start_says, log_whole}
use Rattle.log_stream.specs.Pieces.{first_size, read_over, handed_over}
use Rattle.log_stream.specs.declared.Gathered.{Gathered}
use Rattle.log_stream.proofs.FieldLaws.{read_append, handed_append}
use Rattle.log_stream.proofs.WholeLaws.{whole_read}
use Rattle.text.specs.Text.{refused_line, text_or, Tells}
use Rattle.text.proofs.RefusalLaws.{count_u, Plain, plain_append, tells_or, tells_behind}
use Rattle.text.proofs.TextLaws.{text_accepted, text_refused}
use Rattle.sheet_text_rules.specs.ShowText.{sheet_text, plan_lines_of, show_printed}
use Rattle.sheet_text_rules.specs.LogText.{entry_lines, log_text}
use Rattle.sheet_text_rules.proofs.PlainLaws.{plain_plan, plain_entries, show_tells}
use Rattle.command_show_log.specs.LogShown.{is_log, plan_text, plain_text, shown_number_of, head_text, first_number, show_from, lines_for, show_after, shown_over, last_number, end_text, records_part, shown_of}
use Rattle.command_show_log.specs.LogShown.{shown_with, number_with, first_part, records_read}
use Rattle.command_show_log.specs.Promised.{Promised}
use Rattle.command_show_log.specs.declared.Showing.{Showing}
use Rattle.command_show_log.proofs.ShowLaws.{lines_append, lines_accepted, plan_lines_lem, plain_ever, plain_read, number_ever, number_read, number_plain, head_plain, head_log}
use Rattle.command_show_log.proofs.FirstLaws.{log_same, number_same, text_same}

-- ---- pieces

behind : (k : Showing) (first rest : List ℕ) → show_after k (first ++ rest) ≡ show_after (show_after k first) rest
behind k first rest = ap (λ (v : Gathered). record { gathered = v; number = k.number }) (read_append k.gathered first rest)

shown : (k : Showing) (first rest : List ℕ) → shown_over k (first ++ rest) ≡ shown_over k first ++ shown_over (show_after k first) rest
shown k first rest = ap (lines_for k.number) (handed_append k.gathered first rest) ∙ lines_append k.number (handed_over k.gathered first) (handed_over (read_over k.gathered first) rest)

-- ---- a log with a record

module _ (bs : List ℕ) (log : is_log bs ≡ true) where
  all_passed : plan_passed (scanned true bs).passed ≡ true
  all_passed = sym (start_says bs) ∙ (and-true (plan_start bs).passed _ log).0

  start_number : (plan_start bs).number ≡ judged_plan (set_in true bs) (alloc_in true bs)
  unfolding plan_start
  start_number = rw all_passed refl

  -- the walk over the log is the walk over its records
  walk_same : (log_walked bs).number ≡ (walked bs (plan_start bs).at).number
  unfolding log_walked
  walk_same = rw (all_passed, start_at bs) refl

  records_same : (log_walked bs).records ≡ (walked bs (plan_start bs).at).records
  unfolding log_walked
  records_same = rw (all_passed, start_at bs) refl

  last : last_number (show_after (show_from bs) (records_part bs)) ≡ log_number bs
  last =
      ap (λ (n : ℕ). then_number n (plan_start bs).number) ((whole_read bs (plan_start bs).at (start_inside bs)).ends ∙ sym walk_same)
      ∙ ap (then_number (log_walked bs).number) start_number

  lines : shown_over (show_from bs) (records_part bs) ≡ lines_for (plan_start bs).number (handed_from (walked bs (plan_start bs).at).records bs (plan_start bs).at)
  lines = ap (lines_for (plan_start bs).number) (whole_read bs (plan_start bs).at (start_inside bs)).hands

  log_said : shown_of bs ≡ plan_text (plan_start bs).number (plan_start bs).set (plan_start bs).alloc
      ++ lines_for (plan_start bs).number (handed_from (walked bs (plan_start bs).at).records bs (plan_start bs).at) ++ text_or (log_number bs) []
  unfolding shown_of
  log_said =
      rw log
      (ap (λ (x : List ℕ). x ++ shown_over (show_from bs) (records_part bs) ++ end_text (show_after (show_from bs) (records_part bs))) (sym (head_log bs (plan_start bs) log refl))
      ∙ ap (λ (x : List ℕ). plan_text (plan_start bs).number (plan_start bs).set (plan_start bs).alloc ++ x ++ end_text (show_after (show_from bs) (records_part bs))) lines
      ∙ ap (λ (n : ℕ). plan_text (plan_start bs).number (plan_start bs).set (plan_start bs).alloc
      ++ lines_for (plan_start bs).number (handed_from (walked bs (plan_start bs).at).records bs (plan_start bs).at) ++ text_or n []) last)

  start_set : (plan_start bs).set ≡ set_in true bs
  unfolding plan_start
  start_set = rw all_passed refl

  start_alloc : (plan_start bs).alloc ≡ alloc_in true bs
  unfolding plan_start
  start_alloc = rw all_passed refl

  text_lines : (plan_start bs).number ≡ 0 → plan_text (plan_start bs).number (plan_start bs).set (plan_start bs).alloc ≡ sheet_text true (plan_start bs).set (plan_start bs).alloc
  text_lines z =
      let judged : judged_plan (plan_start bs).set (plan_start bs).alloc ≡ 0 = rw (start_set, start_alloc) (sym start_number ∙ z) in
      rw (eq-eqb (plan_start bs).number 0 z) (plan_lines_lem _ _ judged)

  accepted_said_lem : (read_log bs).number ≡ 0 → shown_of bs ≡ log_text (read_log bs).set (read_log bs).alloc (entries_in bs)
  unfolding log_text
  accepted_said_lem z =
      let none : log_number bs ≡ 0 = sym (read_number_lem bs) ∙ z in
      let both = then_none (log_walked bs).number (judged_plan (set_in true bs) (alloc_in true bs)) none in
      let accepted : (plan_start bs).number ≡ 0 = start_number ∙ both.1 in
      let t = (plan_start bs).set in
      let a = (plan_start bs).alloc in
      let w = walked bs (plan_start bs).at in
      let es = handed_from w.records bs (plan_start bs).at in
      let whole = log_whole bs (plan_start bs) refl (and-true (plan_start bs).passed _ log).0 w refl (sym walk_same ∙ both.0) accepted in
      log_said
      ∙ ap (λ (x : List ℕ). x ++ lines_for (plan_start bs).number es ++ text_or (log_number bs) []) (text_lines accepted)
      ∙ ap (λ (x : List ℕ). sheet_text true t a ++ x ++ text_or (log_number bs) []) (lines_accepted (plan_start bs).number es accepted)
      ∙ ap (λ (x : List ℕ). sheet_text true t a ++ entry_lines es ++ x) (text_accepted (log_number bs) [] none)
      ∙ append-nil (sheet_text true t a ++ entry_lines es)
      ∙ ap (λ (r : ReadLog). sheet_text true r.set r.alloc ++ entry_lines (handed_from r.records bs r.first)) whole

-- ---- no whole record

plain_said : (bs : List ℕ) → is_log bs ≡ false → shown_of bs ≡ plain_text bs
unfolding shown_of
plain_said bs none = rw none (sym (head_plain bs none))

ever : (bs : List ℕ) → (plan_start bs).passed ≡ false → shown_of bs ≡ show_printed bs
ever bs e =
    let none : is_log bs ≡ false = rw e refl in
    plain_said bs none ∙ sym (plain_ever bs e)

-- behind the fields of a plan: the answer of a log that has no record
plain_log : (bs : List ℕ) → (plan_start bs).passed ≡ true → is_log bs ≡ false → shown_of bs ≡ text_or (read_log bs).number (plan_lines_of (read_log bs).set (read_log bs).alloc)
plain_log bs all none = plain_said bs none ∙ sym (plain_read bs (read_log bs) all refl)

refused_said_lem : (bs : List ℕ) → (plan_start bs).passed ≡ true → is_log bs ≡ false → log_number bs ≢ 0 → shown_of bs ≡ refused_line (log_number bs)
refused_said_lem bs all none some =
    plain_log bs all none
    ∙ ap (λ (n : ℕ). text_or n (plan_lines_of (read_log bs).set (read_log bs).alloc)) (read_number_lem bs)
    ∙ text_refused (log_number bs) (plan_lines_of (read_log bs).set (read_log bs).alloc) some

-- ---- an accepted plan

module _ (bs : List ℕ) (accepted : (read_plan bs).number ≡ 0) where
  both : ((scanned true bs).number ≡ 0) × (judged_sheet true (set_in true bs) (alloc_in true bs) ≡ 0)
  unfolding read_sheet
  both = then_none _ _ (sym (sheet-number _ _ _) ∙ accepted)

  sheet : WholeSheet true bs
  sheet = shape_whole true bs both.0

  -- a log without a record
  log : WholeLog bs
  log =
      record {
        passed = sheet.passed;
        records = 0;
        place = sheet.place;
        before = in_plan sheet.before;
        end_whole = sheet.end_whole;
        end_tag_lem = sheet.end_tag_lem;
        nothing_follows = sheet.nothing_follows;
      }

  judged : judged_plan (set_in true bs) (alloc_in true bs) ≡ 0
  unfolding judged_sheet
  judged = both.1

  as_log : read_log bs ≡ record { set = set_in true bs; alloc = alloc_in true bs; first = (scanned true bs).at; records = (log_walked bs).records; number = 0 }
  as_log = read_accepted bs (number_judged bs (ap (λ (w : Walked). w.number) (log_end_there bs log)) ∙ judged)

  as_plan : read_plan bs ≡ record { set = set_in true bs; alloc = alloc_in true bs; number = 0 }
  as_plan = sheet_accepted true bs both.0 both.1

  fields_passed : (plan_start bs).passed ≡ true
  fields_passed =
      start_says bs
      ∙ ⊎_elim (λ (e : plan_passed (scanned true bs).passed ≡ true). e)
      (λ (e : plan_passed (scanned true bs).passed ≡ false). absurd (not_all_fault bs e both.0))
      (true_or_false (plan_passed (scanned true bs).passed))

  -- the end stands where a record would
  no_record_lem : is_log bs ≡ false
  no_record_lem =
      ⊎_elim (λ (e : is_log bs ≡ true).
      let here : (plan_start bs).at ≡ sheet.place = start_at bs ∙ ap (λ (r : Scanned). r.at) (end_there true bs sheet) in
      let size = eqb-false (record_size bs (plan_start bs).at) 0 (not-true _ (and-true (plan_start bs).passed _ e).1) in
      let low = (record_tag bs (plan_start bs).at (record_there bs (plan_start bs).at size).here).1 in
      absurd (omega (arith, low, ap (tag_at bs) here, sheet.end_tag_lem)))
      (λ (e : is_log bs ≡ false). e)
      (true_or_false (is_log bs))

  sheet_printed : show_printed bs ≡ sheet_text true (set_in true bs) (alloc_in true bs)
  unfolding show_printed text_or
  sheet_printed =
      rw (sheet-rules.plan_no_request bs accepted)
      (ap (λ (r : ReadPlan). text_or r.number (sheet_text true r.set r.alloc)) as_plan)

  plan_ever : shown_of bs ≡ show_printed bs
  unfolding text_or
  plan_ever =
      plain_log bs fields_passed no_record_lem
      ∙ ap (λ (r : ReadLog). text_or r.number (plan_lines_of r.set r.alloc)) as_log
      ∙ plan_lines_lem _ _ judged
      ∙ sym sheet_printed

-- ---- the number, and what the text tells

number_whole : (bs : List ℕ) → number_with bs (records_part bs) ≡ shown_number_of bs
number_whole bs =
    ⊎_elim (λ (e : is_log bs ≡ true). rw e (last bs e ∙ sym (read_number_lem bs) ∙ number_read bs (read_log bs) (and-true (plan_start bs).passed _ e).0 refl))
    (λ (e : is_log bs ≡ false). rw e (sym (number_plain bs e)))
    (true_or_false (is_log bs))

plain_lines : (k : ℕ) (es : List Entry) → Plain (lines_for k es)
unfolding lines_for count_u
plain_lines zero es = plain_entries es
plain_lines (suc k) es = refl

plain_start : (k : ℕ) (t : Set) (a : Alloc) → Plain (plan_text k t a)
unfolding count_u
plain_start zero t a = plain_plan t a
plain_start (suc k) t a = rw (ne_eqb (suc k) 0 (omega arith)) refl

-- a log with a record
log_tells : (bs : List ℕ) → is_log bs ≡ true → Tells (shown_of bs) (shown_number_of bs)
log_tells bs log =
    let k = (plan_start bs).number in
    let text = plan_text k (plan_start bs).set (plan_start bs).alloc in
    let lines = lines_for k (handed_from (walked bs (plan_start bs).at).records bs (plan_start bs).at) in
    let number : log_number bs ≡ shown_number_of bs = sym (read_number_lem bs) ∙ number_read bs (read_log bs) (and-true (plan_start bs).passed _ log).0 refl in
    rw (log_said bs log, ← number) (tells_behind (text ++ lines) (log_number bs) (plain_append text lines (plain_start k _ _) (plain_lines k _)))

-- anything else
plain_tells : (bs : List ℕ) → is_log bs ≡ false → Tells (shown_of bs) (shown_number_of bs)
plain_tells bs none =
    ⊎_elim (λ (all : (plan_start bs).passed ≡ true).
    rw (plain_log bs all none, ← number_read bs (read_log bs) all refl) (tells_or _ (read_log bs).number (plain_plan _ _)))
    (λ (e : (plan_start bs).passed ≡ false). rw (ever bs e, ← number_ever bs e) (show_tells bs))
    (true_or_false (plan_start bs).passed)

tells : (bs : List ℕ) → Tells (shown_of bs) (shown_number_of bs)
tells bs = ⊎_elim (log_tells bs) (plain_tells bs) (true_or_false (is_log bs))

-- ---- the first bytes are enough

module _ (bs : List ℕ) where
  abbrev first : List ℕ
  first = first_part bs

  abbrev rest : List ℕ
  rest = drop first_size bs

  first_rest : first ++ rest ≡ bs
  first_rest = take-append-drop first_size bs

  enough : (rest ≡ []) ⊎ (first_size ≤ length first)
  enough = ⊎_elim (λ e. inl e) (λ e. inr (omega arith)) (take_or_all first_size bs)

  of_first : {A : Type 0} (f : List ℕ → A) → (first_size ≤ length first → f (first ++ rest) ≡ f first) → f first ≡ f bs
  of_first f same = sym (stays f first_size first rest enough same) ∙ ap f first_rest

  start : plan_start first ≡ plan_start bs
  start = of_first plan_start (λ l. start_same first rest (omega arith))

  log_first : is_log first ≡ is_log bs
  log_first = of_first (λ x. is_log x) (log_same first rest)

  text_first : head_text first ≡ head_text bs
  text_first = of_first head_text (text_same first rest)

  records_first : records_read bs ≡ records_part bs
  records_first =
      sym (drop-append-le (plan_start first).at first rest (start_inside first))
      ∙ ap (λ (s : PlanStart). drop s.at (first ++ rest)) start
      ∙ ap (drop (plan_start bs).at) first_rest

  shown_in_pieces : shown_with (first_part bs) (records_read bs) ≡ shown_of bs
  unfolding shown_of
  shown_in_pieces = rw (log_first, text_first, records_first, start) refl

  number_first : first_number first ≡ first_number bs
  number_first = of_first first_number (number_same first rest)

  number_in_pieces : number_with (first_part bs) (records_read bs) ≡ shown_number_of bs
  number_in_pieces = rw (log_first, number_first, records_first, start) (number_whole bs)

pub promised : Promised
promised =
    record {
      pieces_behind = behind;
      pieces_shown = shown;
      log_shown = log_said;
      same_number = last;
      accepted_shown = accepted_said_lem;
      as_ever = ever;
      plan_as_ever = plan_ever;
      plain_refused = refused_said_lem;
      first_log = log_first;
      in_pieces = shown_in_pieces;
      number_in_pieces = number_in_pieces;
      shown_refused = tells;
    }
