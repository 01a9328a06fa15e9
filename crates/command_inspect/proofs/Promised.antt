-- Everything that `specs/Promised.antt` lists, proved.
use Prim.Native.Nat.{ℕ, ◌^◌, ◌<◌}
use mathlib.Core.Path.{◌≡◌, refl, sym, ap, ◌∙◌}
use mathlib.Core.Bool.{true, false}
use mathlib.Core.List.{List, [], ◌∷◌, ◌++◌}
use mathlib.Core.Logic.{◌≢◌, ◌↔◌, ⊎_elim}
use borrow.Author.Tests.{eqb-true, eq-eqb, ne_eqb}
use Rattle.units.proofs.JudgingLaws.{and-true, true_and}
use Rattle.sets.specs.declared.Set.{Set}
use Rattle.plans.specs.declared.Alloc.{Alloc}
use Rattle.field_reader.proofs.ScannedLaws.{zero_or_not}
use Rattle.log_records.specs.declared.VisitEntry.{VisitEntry}
use Rattle.log_records.specs.declared.MarkEntry.{MarkEntry}
use Rattle.log_records.specs.declared.Entry.{Entry}
use Rattle.log_records.specs.declared.Entry.TheVariants.{Visit, Mark}
use Rattle.logs.specs.Reading.{read_log, entries_in}
use Rattle.inspection.specs.Records.{inspection_of}
use Rattle.inspection.specs.Findings.{compared, found_in, finding_in}
use Rattle.inspection.specs.declared.Inspection.{Inspection}
use Rattle.inspection.specs.declared.Finding.{Finding}
use Rattle.inspection.proofs.FindingLaws.{finding_refused, finding_read}
use Rattle.text.specs.Text.{decimal_within, line_on, line, refused_line}
use Rattle.inspection_stream.specs.Inspecting.{inspect_over, inspect_start, inspect_number}
use Rattle.inspection_stream.specs.declared.Inspecting.{Inspecting}
use Rattle.inspection_stream.proofs.Promised.{promised as pieces}
use Rattle.command_inspect.specs.FindingText.{accepted_line, rule_word, record_line, aim_of, unit_of, people_line, broken_text, finding_text, is_accepted}
use Rattle.command_inspect.specs.Promised.{Names, SaidAlready, Promised}
use Rattle.command_inspect.specs.Promised.{accepted_said, station_broken, start_broken, limit_broken, synchronous_broken, asynchronous_broken, mark_compared, start_after_visit, start_after_mark}
use Rattle.command_inspect.proofs.LineLaws.{refused_text, accepted_text, broken_text_lem}

module _ (bs : List ℕ) where
  -- the number of the finding is that of reading the log
  number_is : (finding_in bs).number ≡ (read_log bs).number
  number_is =
      let k = (read_log bs).number in
      ⊎_elim (λ (z : (read_log bs).number ≡ 0). ap (λ (f : Finding). f.number) (finding_read k (found_in bs) z) ∙ sym z)
      (λ (some : (read_log bs).number ≢ 0). ap (λ (f : Finding). f.number) (finding_refused k (found_in bs) some))
      (zero_or_not (read_log bs).number)

  kept_is : inspect_number (inspect_start bs) ≡ (finding_in bs).number
  kept_is = pieces.same_number bs ∙ sym number_is

  refused_said_lem : (finding_in bs).number ≢ 0 → finding_text (inspect_start bs) ≡ refused_line (finding_in bs).number
  refused_said_lem some = sym (refused_text (inspect_start bs) (λ z. some (sym kept_is ∙ z))) ∙ ap (λ (n : ℕ). refused_line n) kept_is

  module _ (z : (finding_in bs).number ≡ 0) where
    read : (read_log bs).number ≡ 0
    read = sym number_is ∙ z

    rule_is : (inspect_start bs).looked.inspection.rule ≡ (finding_in bs).rule
    rule_is = pieces.same_rule bs read

    accepted_said_lem : (finding_in bs).records < 2 ^ 64 → (finding_in bs).rule ≡ 0 → finding_text (inspect_start bs) ≡ accepted_line (finding_in bs).records
    accepted_said_lem few none =
        sym (accepted_text (inspect_start bs) (kept_is ∙ z) (rule_is ∙ none)) ∙ ap (λ (n : ℕ). accepted_line n) (pieces.same_records bs read few none)

    broken_said : (finding_in bs).records < 2 ^ 64 → (finding_in bs).rule ≢ 0 → Names bs (finding_text (inspect_start bs))
    unfolding broken_text
    broken_said few some =
        let k = inspect_start bs in
        let b = k.looked.before in
        let e = k.looked.last in
        let state = k.looked.inspection in
        let found = finding_in bs in
        let both : ℕ → ℕ → Inspection → Set → Alloc → List ℕ = λ number rule s t a. record_line number rule ++ people_line rule t.head.frame b e (compared s t a e) in
        let plan = pieces.same_plan_read bs read in
        record {
          before = b;
          entry = e;
          breaks = pieces.same_broken bs read few some;
          lines =
              sym (broken_text_lem k (kept_is ∙ z) (λ y. some (sym rule_is ∙ y)))
              ∙ ap (λ (n : ℕ). both n state.rule state k.start.set k.start.alloc) (pieces.same_record bs read)
              ∙ ap (λ (n : ℕ). both found.«record» n state k.start.set k.start.alloc) rule_is
              ∙ ap (λ (s : Inspection). both found.«record» found.rule s k.start.set k.start.alloc) (pieces.same_inspection bs read)
              ∙ ap (λ (t : Set). both found.«record» found.rule (inspection_of (read_log bs).set (read_log bs).alloc (entries_in bs)) t k.start.alloc) plan.0
              ∙ ap (λ (a : Alloc). both found.«record» found.rule (inspection_of (read_log bs).set (read_log bs).alloc (entries_in bs)) (read_log bs).set a) plan.1;
        }

  told : (is_accepted (inspect_start bs) ≡ true) ↔ (((finding_in bs).number ≡ 0) × ((finding_in bs).rule ≡ 0))
  told = (
    λ yes.
        let both = and-true _ _ yes in
        let z : (finding_in bs).number ≡ 0 = sym kept_is ∙ eqb-true _ _ both.0 in
        (z, sym (rule_is z) ∙ eqb-true _ _ both.1),
    λ both. true_and _ _ (eq-eqb _ _ (kept_is ∙ both.0)) (eq-eqb _ _ (rule_is both.0 ∙ both.1)),
  )

-- ---- behind a fault

not_accepted : (k : Inspecting) → inspect_number k ≢ 0 → is_accepted k ≡ false
not_accepted k some = rw (ne_eqb (inspect_number k) 0 some) refl

behind_fault : (k : Inspecting) (bs : List ℕ) → k.gathered.number ≢ 0 → SaidAlready k bs
behind_fault k bs n =
    let same = pieces.fault_ends k bs n in
    let some : inspect_number (inspect_over k bs) ≢ 0 = λ z. same.1 (sym same.0 ∙ z) in (
      sym (refused_text (inspect_over k bs) some) ∙ ap (λ (j : ℕ). refused_line j) same.0 ∙ refused_text k same.1,
      not_accepted (inspect_over k bs) some ∙ sym (not_accepted k same.1),
    )

-- ---- to the byte

accepted_bytes : accepted_line 26 ≡ accepted_said
unfolding line line_on decimal_within
accepted_bytes = refl

rule_bytes : record_line 9 1 ∷ record_line 9 2 ∷ record_line 9 3 ∷ record_line 9 4 ∷ record_line 9 5 ∷ []
    ≡ station_broken ∷ start_broken ∷ limit_broken ∷ synchronous_broken ∷ asynchronous_broken ∷ []
unfolding rule_word line line_on decimal_within
rule_bytes = refl

mark_bytes_lem : (rule longest : ℕ) (before : Entry)
    → people_line rule longest before (Mark (record { station = 5; mark = 2 })) (record { expected = 4; found = 5 }) ≡ mark_compared
unfolding decimal_within
mark_bytes_lem rule longest before = refl

start_bytes : (longest : ℕ) (v : VisitEntry) → ((b : VisitEntry) → people_line 2 longest (Visit b) (Visit v) (record { expected = 19; found = 20 }) ≡ start_after_visit)
    × ((m : MarkEntry) → people_line 2 longest (Mark m) (Visit v) (record { expected = 19; found = 20 }) ≡ start_after_mark)
unfolding aim_of unit_of decimal_within
start_bytes longest v = (λ b. refl, λ m. refl)

pub promised : Promised
promised =
    record {
      refused = refused_said_lem;
      accepted = accepted_said_lem;
      broken = broken_said;
      fault_ends = behind_fault;
      status = told;
      accepted_worded = accepted_bytes;
      rules_worded = rule_bytes;
      mark_worded = mark_bytes_lem;
      start_worded = start_bytes;
    }
