-- The text of a log makes its bytes: at the first record the draft holds the plan, whose fields go out; each record's line lets out its field; and the end comes last.
use Prim.Native.Nat.{ℕ, zero, suc, ◌^◌, ◌≤◌}
use mathlib.Core.Path.{◌≡◌, refl, sym, ap, ◌∙◌}
use mathlib.Core.Bool.{true, false, false≢true}
use mathlib.Core.List.{List, [], ◌∷◌, ◌++◌, append_assoc, append-nil}
use native.Mathlib.Omega.{arith}
use Rattle.std.specs.Prelude.{Option, None, Some, is_none}
use borrow.Author.Tests.{eqb-true, lt-ltb, le-ltb, ne_eqb, le-leb}
use lib.ListN.{length}
use mathlib.Core.Logic.{◌≢◌}
use Rattle.units.proofs.JudgingLaws.{and-true}
use Rattle.sets.specs.declared.Set.{Set}
use Rattle.plans.specs.Planned.{judged_plan}
use Rattle.plans.specs.declared.Alloc.{Alloc}
use Rattle.log_records.specs.Visit.{VisitFits}
use Rattle.log_records.specs.Mark.{MarkFits}
use Rattle.log_records.specs.Entry.{entry_bytes, EntryFits}
use Rattle.log_records.specs.declared.VisitEntry.{VisitEntry}
use Rattle.log_records.specs.declared.MarkEntry.{MarkEntry}
use Rattle.log_records.specs.declared.Entry.{Entry}
use Rattle.log_records.specs.declared.Entry.TheVariants.{Visit, Mark}
use Rattle.sheets.specs.Layout.{end_bytes, fields_of, sheet_of, plan_sheet}
use Rattle.sheets.specs.Reading.{judged_sheet}
use Rattle.sheets.proofs.ReadLaws.{Kept, judged_kept, then_keeps}
use Rattle.sheets.specs.Writing.{write_number, refused_writing}
use Rattle.sheets.proofs.WritingLaws.{answer_refused, buffer_refused}
use Rattle.sheet_rules.specs.Promised.{first_places, first_allocations}
use Rattle.sheet_rules.proofs.BackLaws.{first_same, first_allocations_lem, judged_first}
use Rattle.sheet_rules.proofs.Promised.{fields_same}
use Rattle.logs.specs.Layout.{entries_bytes, log_of, AllFit}
use Rattle.text.specs.Text.{newline}
use Rattle.line_reader.specs.Scan.{letter_read, character_read, stepped}
use Rattle.line_reader.proofs.ScanLaws.{stepped_over, with_numbers, word_scan, typed, AllSmall, small_none, typed_read, line_typed, has_no_end, no_end_typed}
use Rattle.line_reader.specs.declared.Scan.{Scan}
use Rattle.command_compose.specs.Compose.{visit_word, mark_word, is_visit_line, is_mark_line, is_record_line, with_record, on_next_line, compose_start, compose_after, is_whole, composed_answer, composed_buffer, draft_of}
use Rattle.command_compose.proofs.ComposeLaws.{compose_append, newline_more, at_rest}
use Rattle.command_compose.specs.Sent.{visit_in, mark_in, entry_in, goes_out, plan_sent, sent_by, sent_over, sent_of, end_answer, end_buffer, Makes}
use Rattle.command_compose.specs.declared.Draft.{Draft}
use Rattle.command_compose.specs.declared.Composing.{Composing}
use Rattle.command_compose.proofs.SentLaws.{record_drafted_lem, entry_visit, entry_mark, first_out, plan_first, plan_none, sent_record, sent_append, sent_line, sent_newline, end_of_log}
use Rattle.sheet_text_rules.specs.ShowText.{sheet_text}
use Rattle.sheet_text_rules.specs.LogText.{visit_line, mark_line, entry_line, entry_lines, log_text}
use Rattle.sheet_text_rules.proofs.DraftLaws.{Readable, typed_composed, head_some, share_of, draft_behind}
use Rattle.sheet_text_rules.proofs.ShownLaws.{kept_drafted, kept_silent, kind_some, kept_composes, plan_again}

-- ---- an entry's line

-- its word, and the numbers behind it
abbrev entry_word : Entry → List ℕ
entry_word (Visit v) = visit_word
entry_word (Mark m) = mark_word

abbrev entry_numbers : Entry → List ℕ
entry_numbers (Visit v) = v.station ∷ v.start ∷ v.limit ∷ v.synchronous ∷ v.asynchronous ∷ []
entry_numbers (Mark m) = m.station ∷ m.mark ∷ []

-- what the scan of the line holds
entry_scan : Entry → Scan
entry_scan e = with_numbers (word_scan (entry_word e)) (entry_numbers e)

visit_word_lem : Readable visit_word
unfolding stepped_over stepped character_read letter_read has_no_end
visit_word_lem = record { stepped_over_lem = refl; some = omega arith; inside = refl }

mark_word_lem : Readable mark_word
unfolding stepped_over stepped character_read letter_read has_no_end
mark_word_lem = record { stepped_over_lem = refl; some = omega arith; inside = refl }

-- the line can be read, as that of a record which names the entry
record LineOf (e : Entry) : Type 0 where
  word : Readable (entry_word e)
  as_typed : entry_line e ≡ typed (entry_word e) (entry_numbers e) ++ (newline ∷ [])
  few : length (entry_numbers e) ≤ 5
  small : AllSmall (entry_numbers e)
  is_record_lem : is_record_line (entry_scan e) ≡ true
  names : entry_in (entry_scan e) ≡ e

module _ (v : VisitEntry) where
  visit_typed : visit_line v ≡ typed visit_word (entry_numbers (Visit v)) ++ (newline ∷ [])
  unfolding visit_line
  visit_typed = line_typed visit_word (entry_numbers (Visit v))

  visit_named : visit_in (entry_scan (Visit v)) ≡ v
  unfolding with_numbers entry_scan
  visit_named = refl

  module _ (fit : VisitFits v) where
    is_visit_lem : is_visit_line (entry_scan (Visit v)) ≡ true
    unfolding with_numbers entry_scan
    is_visit_lem =
        rw (
          lt-ltb v.station (2 ^ 32) (omega (arith, fit.station)),
          lt-ltb v.start (2 ^ 32) fit.start,
          lt-ltb v.limit (2 ^ 32) fit.limit,
          lt-ltb v.synchronous (2 ^ 32) fit.synchronous,
          lt-ltb v.asynchronous (2 ^ 32) fit.asynchronous,
          lt-ltb v.station 256 fit.station,
        )
        refl

    visit_small : AllSmall (entry_numbers (Visit v))
    visit_small zero = omega (arith, fit.station)
    visit_small (suc zero) = omega (arith, fit.start)
    visit_small (suc (suc zero)) = omega (arith, fit.limit)
    visit_small (suc (suc (suc zero))) = omega (arith, fit.synchronous)
    visit_small (suc (suc (suc (suc zero)))) = omega (arith, fit.asynchronous)
    visit_small (suc (suc (suc (suc (suc i))))) = small_none i

    visit_line_lem : LineOf (Visit v)
    visit_line_lem =
        record {
          word = visit_word_lem;
          as_typed = visit_typed;
          few = omega arith;
          small = visit_small;
          is_record_lem = rw is_visit_lem refl;
          names = entry_visit (entry_scan (Visit v)) is_visit_lem ∙ ap Visit visit_named;
        }

module _ (m : MarkEntry) where
  mark_typed : mark_line m ≡ typed mark_word (entry_numbers (Mark m)) ++ (newline ∷ [])
  unfolding mark_line
  mark_typed = line_typed mark_word (entry_numbers (Mark m))

  no_visit : is_visit_line (entry_scan (Mark m)) ≡ false
  unfolding with_numbers entry_scan
  no_visit = refl

  mark_named : mark_in (entry_scan (Mark m)) ≡ m
  unfolding with_numbers entry_scan
  mark_named = refl

  module _ (fit : MarkFits m) where
    is_mark_lem : is_mark_line (entry_scan (Mark m)) ≡ true
    unfolding with_numbers entry_scan
    is_mark_lem =
        rw (
          lt-ltb m.station (2 ^ 32) (omega (arith, fit.station)),
          lt-ltb m.mark (2 ^ 32) (omega (arith, fit.mark)),
          lt-ltb m.station 256 fit.station,
          lt-ltb m.mark 256 fit.mark,
        )
        refl

    mark_small : AllSmall (entry_numbers (Mark m))
    mark_small zero = omega (arith, fit.station)
    mark_small (suc zero) = omega (arith, fit.mark)
    mark_small (suc (suc i)) = small_none i

    mark_line_lem : LineOf (Mark m)
    mark_line_lem =
        record {
          word = mark_word_lem;
          as_typed = mark_typed;
          few = omega arith;
          small = mark_small;
          is_record_lem = rw (no_visit, is_mark_lem) refl;
          names = entry_mark (entry_scan (Mark m)) no_visit ∙ ap Mark mark_named;
        }

line_of : (e : Entry) → EntryFits e → LineOf e
line_of (Visit v) fit = visit_line_lem v fit
line_of (Mark m) fit = mark_line_lem m fit

-- what it makes of a draft, and what it lets out
module _ (e : Entry) (fit : EntryFits e) where
  entry_composed : (d : Draft) → compose_after (at_rest d) (entry_line e) ≡ at_rest (on_next_line (with_record d))
  unfolding entry_scan
  entry_composed d =
      let said = line_of e fit in
      let word = said.word in
      ap (compose_after (at_rest d)) said.as_typed
      ∙ typed_composed d (entry_word e) (entry_numbers e) word.stepped_over_lem word.some word.inside said.few said.small
      ∙ ap (λ (x : Draft). at_rest (on_next_line x)) (record_drafted_lem (entry_scan e) said.is_record_lem d)

  entry_sent : (d : Draft) → goes_out (with_record d) ≡ true → sent_over (at_rest d) (entry_line e) ≡ plan_sent d ++ entry_bytes e
  unfolding entry_scan
  entry_sent d out =
      let said = line_of e fit in
      let word = said.word in
      ap (sent_over (at_rest d)) said.as_typed
      ∙ sent_line (at_rest d) (typed (entry_word e) (entry_numbers e)) (no_end_typed (entry_word e) (entry_numbers e) word.inside)
      ∙ ap (sent_by d) (typed_read (entry_word e) (entry_numbers e) word.stepped_over_lem word.some said.few said.small)
      ∙ sent_record d (entry_scan e) said.is_record_lem out
      ∙ ap (λ (x : Entry). plan_sent d ++ entry_bytes x) said.names

-- ---- the records behind the first

-- each line is counted, and nothing else changes
unfoldable lines_on : Draft → List Entry → Draft
lines_on d [] = d
lines_on d (e ∷ es) = lines_on (on_next_line d) es

lines_out : (d : Draft) (es : List Entry) → goes_out (lines_on d es) ≡ goes_out d
unfolding lines_on
lines_out d [] = refl
lines_out d (e ∷ es) = lines_out (on_next_line d) es

none_is : (known : Option ℕ) → is_none known ≡ true → known ≡ None
none_is None e = refl
none_is (Some n) e = absurd (false≢true e)

out_kind : (d : Draft) → goes_out d ≡ true → d.kind ≡ 3
out_kind d out = eqb-true d.kind 3 (and-true (is_whole d) _ out).1

later_record : (d : Draft) → d.kind ≡ 3 → with_record d ≡ d
unfolding with_record
later_record d k = rw (ne_eqb d.kind 2 (omega arith), le-ltb d.kind 3 (omega arith)) refl

entries_behind : (d : Draft) (es : List Entry) → goes_out d ≡ true → AllFit es
    → (compose_after (at_rest d) (entry_lines es) ≡ at_rest (lines_on d es)) × (sent_over (at_rest d) (entry_lines es) ≡ entries_bytes es)
unfolding entry_lines lines_on entries_bytes compose_after sent_over
entries_behind d [] out fit = (refl, refl)
entries_behind d (e ∷ es) out (first, rest) =
    let k = out_kind d out in
    let same = later_record d k in
    let behind = entry_composed e first d ∙ ap (λ (x : Draft). at_rest (on_next_line x)) same in
    let again = entries_behind (on_next_line d) es out rest in
    let sent = entry_sent e first d (ap goes_out same ∙ out) ∙ ap (λ (x : List ℕ). x ++ entry_bytes e) (plan_none d (omega arith)) in (
      compose_append (at_rest d) (entry_line e) (entry_lines es) ∙ ap (λ (c : Composing). compose_after c (entry_lines es)) behind ∙ again.0,
      sent_append (at_rest d) (entry_line e) (entry_lines es)
          ∙ ap (λ (x : List ℕ). x ++ sent_over (compose_after (at_rest d) (entry_line e)) (entry_lines es)) sent
          ∙ ap (λ (c : Composing). entry_bytes e ++ sent_over c (entry_lines es)) behind
          ∙ ap (λ (x : List ℕ). entry_bytes e ++ x) again.1,
    )

-- ---- a whole log

module _ (t : Set) (a : Alloc) (judged : judged_sheet true t a ≡ 0) where
  kept : Kept true t a
  kept = judged_kept true t a judged

  -- the draft of the plan's lines
  plan_draft : Draft
  plan_draft = draft_behind true t a t.n

  drafted : compose_after compose_start (sheet_text true t a) ≡ at_rest plan_draft
  unfolding plan_draft
  drafted = kept_drafted true t a kept

  -- it is that of a plan, which is accepted
  of_plan : plan_draft.kind ≡ 2
  unfolding plan_draft draft_behind
  of_plan = kind_some true t.n kept.count.0

  whole : is_whole plan_draft ≡ true
  unfolding plan_draft draft_behind
  whole = head_some t.head

  accepts : judged_sheet true plan_draft.set plan_draft.alloc ≡ 0
  unfolding plan_draft draft_behind share_of
  accepts = judged_first true t a kept.count.1 ∙ judged

  its_fields : plan_sent plan_draft ≡ fields_of true t a
  unfolding plan_draft draft_behind share_of
  its_fields =
      let few = kept.count.1 in
      plan_first (draft_behind true t a t.n) of_plan
      ∙ sym (fields_same true t (first_places t) a (first_allocations t.n a) (first_same t few) (first_allocations_lem t.n a few))

  out : goes_out (with_record plan_draft) ≡ true
  out = first_out plan_draft whole of_plan accepts

  module _ (e : Entry) (es : List Entry) (first : EntryFits e) (rest : AllFit es) where
    -- behind the first record, and behind all
    logged : Draft
    logged = on_next_line (with_record plan_draft)

    later : (compose_after (at_rest logged) (entry_lines es) ≡ at_rest (lines_on logged es)) × (sent_over (at_rest logged) (entry_lines es) ≡ entries_bytes es)
    unfolding logged
    later = entries_behind (on_next_line (with_record plan_draft)) es out rest

    log_drafted : compose_after compose_start (log_text t a (e ∷ es)) ≡ at_rest (lines_on logged es)
    unfolding log_text entry_lines logged
    log_drafted =
        compose_append compose_start (sheet_text true t a) (entry_line e ++ entry_lines es)
        ∙ ap (λ (c : Composing). compose_after c (entry_line e ++ entry_lines es)) drafted
        ∙ compose_append (at_rest plan_draft) (entry_line e) (entry_lines es)
        ∙ ap (λ (c : Composing). compose_after c (entry_lines es)) (entry_composed e first plan_draft)
        ∙ later.0

    log_sent : sent_over compose_start (log_text t a (e ∷ es)) ≡ fields_of true t a ++ entries_bytes (e ∷ es)
    unfolding log_text entry_lines entries_bytes logged
    log_sent =
        sent_append compose_start (sheet_text true t a) (entry_line e ++ entry_lines es)
        ∙ ap (λ (x : List ℕ). x ++ sent_over (compose_after compose_start (sheet_text true t a)) (entry_line e ++ entry_lines es)) (kept_silent true t a kept)
        ∙ ap (λ (c : Composing). sent_over c (entry_line e ++ entry_lines es)) drafted
        ∙ sent_append (at_rest plan_draft) (entry_line e) (entry_lines es)
        ∙ ap (λ (x : List ℕ). x ++ sent_over (compose_after (at_rest plan_draft) (entry_line e)) (entry_lines es)) (entry_sent e first plan_draft out)
        ∙ ap (λ (x : List ℕ). (x ++ entry_bytes e) ++ sent_over (compose_after (at_rest plan_draft) (entry_line e)) (entry_lines es)) its_fields
        ∙ ap (λ (c : Composing). (fields_of true t a ++ entry_bytes e) ++ sent_over c (entry_lines es)) (entry_composed e first plan_draft)
        ∙ ap (λ (x : List ℕ). (fields_of true t a ++ entry_bytes e) ++ x) later.1
        ∙ append_assoc (fields_of true t a) (entry_bytes e) (entries_bytes es)

    -- one newline more changes nothing but the number of the line
    log_ended : draft_of (log_text t a (e ∷ es)) ≡ on_next_line (lines_on logged es)
    log_ended =
        ap (λ (c : Composing). c.draft)
        (compose_append compose_start (log_text t a (e ∷ es)) (newline ∷ [])
        ∙ ap (λ (c : Composing). compose_after c (newline ∷ [])) log_drafted
        ∙ newline_more (lines_on logged es))

    all_sent : sent_of (log_text t a (e ∷ es)) ≡ fields_of true t a ++ entries_bytes (e ∷ es)
    all_sent =
        sent_append compose_start (log_text t a (e ∷ es)) (newline ∷ [])
        ∙ ap (λ (c : Composing). sent_over compose_start (log_text t a (e ∷ es)) ++ sent_over c (newline ∷ [])) log_drafted
        ∙ ap (λ (x : List ℕ). sent_over compose_start (log_text t a (e ∷ es)) ++ x) (sent_newline (lines_on logged es))
        ∙ append-nil (sent_over compose_start (log_text t a (e ∷ es)))
        ∙ log_sent

    still_out : goes_out (lines_on logged es) ≡ true
    unfolding logged
    still_out = lines_out (on_next_line (with_record plan_draft)) es ∙ out

    some_composed : Makes (log_text t a (e ∷ es)) (log_of t a (e ∷ es))
    unfolding log_of
    some_composed =
        let read = (and-true (is_none (lines_on logged es).unread) _ (and-true (is_whole (lines_on logged es)) _ still_out).0).0 in
        record {
          first = fields_of true t a ++ entries_bytes (e ∷ es);
          last = end_bytes;
          composes = record {
            readable = ap (λ (d : Draft). d.unread) log_ended ∙ none_is (lines_on logged es).unread read;
            sent = all_sent;
            answer = λ buffer room. ap (λ (d : Draft). end_answer d buffer) log_ended ∙ (end_of_log (on_next_line (lines_on logged es)) buffer still_out room).0;
            buffer = λ buffer room. ap (λ (d : Draft). end_buffer d buffer) log_ended ∙ (end_of_log (on_next_line (lines_on logged es)) buffer still_out room).1;
          };
          all = refl;
        }

  -- a log without a record is the plan sheet
  none_composed : Makes (log_text t a []) (log_of t a [])
  unfolding log_text entry_lines log_of entries_bytes sheet_of
  none_composed =
      record {
        first = [];
        last = plan_sheet t a;
        composes =
            kept_composes true t a (plan_sheet t a) (log_text t a []) kept (append-nil (sheet_text true t a))
            (λ buffer room. plan_again t a judged buffer room);
        all = ap (λ (fields : List ℕ). fields ++ end_bytes) (sym (append-nil (fields_of true t a)));
      }

pub log_composed : (t : Set) (a : Alloc) (es : List Entry) → judged_plan t a ≡ 0 → AllFit es → Makes (log_text t a es) (log_of t a es)
unfolding judged_sheet
log_composed t a [] judged fit = none_composed t a judged
log_composed t a (e ∷ es) judged (first, rest) = some_composed t a judged e es first rest

-- ---- a plan that is refused

pub refused_ends : (d : Draft) (out : List ℕ) → d.kind ≡ 4 → is_whole d ≡ true → judged_plan d.set d.alloc ≢ 0
    → (end_answer d out ≡ refused_writing (judged_plan d.set d.alloc)) × (end_buffer d out ≡ out)
unfolding end_answer end_buffer composed_answer composed_buffer judged_sheet
refused_ends d out k whole refused =
    let number : write_number true d.set d.alloc (length out) ≡ judged_plan d.set d.alloc = then_keeps _ _ refused in
    let later = ne_eqb d.kind 3 (omega arith) in
    let plan = le-leb 2 d.kind (omega arith) in (
      rw (whole, later, plan) (answer_refused _ _ (λ z. refused (sym number ∙ z)) ∙ ap refused_writing number),
      rw (whole, later, plan) (buffer_refused _ _ _ (λ z. refused (sym number ∙ z))),
    )
