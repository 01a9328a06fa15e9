-- The promises hold because what `log` writes is the log of a run of the model, such a log is accepted, and pieces of it are inspected as the whole is. So pieces of an accepted log show what the whole shows.
use Prim.Native.Nat.{ℕ, ◌^◌, ◌<◌}
use mathlib.Core.Path.{◌≡◌, refl, sym, ap, subst, ◌∙◌}
use mathlib.Core.Bool.{true}
use mathlib.Core.List.{List, [], ◌∷◌, reverse}
use lib.ListN.{length, length-map, length-reverse}
use Rattle.plans.specs.Planned.{judged_plan}
use Rattle.fields.specs.Bytes.{AllBytes}
use Rattle.sheets.specs.Reading.{read_plan}
use Rattle.sheets.proofs.ReadLaws.{then_none}
use Rattle.logs.specs.Layout.{log_of}
use Rattle.logs.specs.Reading.{read_log, entries_in}
use Rattle.promises.specs.Run.{events_of}
use Rattle.promises.proofs.Promised as runs
use Rattle.log_rules.specs.Recorded.{says, told_in, entries_of}
use Rattle.command_run.specs.Runs.{opened_run}
use Rattle.command_log_rules.specs.Calls.{calls_of}
use Rattle.command_log_rules.specs.Promised.{set_from, alloc_from, written, entries_for}
use Rattle.command_log_rules.proofs.Promised as records
use Rattle.log_stream.specs.Pieces.{read_over, handed_over}
use Rattle.inspection.specs.Findings.{finding_in}
use Rattle.inspection.specs.declared.Finding.{Finding}
use Rattle.inspection_rules.proofs.Promised as inspections
use Rattle.accepted_log_rules.specs.Shows.{Shows}
use Rattle.accepted_log_rules.proofs.Promised as logs
use Rattle.inspection_stream.specs.Inspecting.{looked_all, inspect_over, inspect_start}
use Rattle.inspection_stream.specs.declared.Inspecting.{Inspecting}
use Rattle.inspection_stream.proofs.Promised as in_pieces
use Rattle.command_inspect.specs.FindingText.{accepted_line, finding_text, is_accepted}
use Rattle.command_inspect.proofs.Promised as texts
use Rattle.log_inspection_rules.specs.Promised.{joined, inspect_pieces, ComesIn, Promised}

-- ---- pieces

kept_none : (k : Inspecting) → inspect_over k [] ≡ k
unfolding read_over handed_over looked_all
kept_none k = refl

kept_joined : (k : Inspecting) (pieces : List (List ℕ)) → inspect_pieces k pieces ≡ inspect_over k (joined pieces)
unfolding joined inspect_pieces
kept_joined k [] = sym (kept_none k)
kept_joined k (piece ∷ pieces) = kept_joined (inspect_over k piece) pieces ∙ sym ((in_pieces.promised).pieces k piece (joined pieces))

pub kept_whole : (bs first : List ℕ) (pieces : List (List ℕ)) → ComesIn bs first pieces → inspect_pieces (inspect_start first) pieces ≡ inspect_start bs
kept_whole bs first pieces comes =
    kept_joined (inspect_start first) pieces ∙ (in_pieces.promised).first_piece first (joined pieces) comes.1 ∙ ap (λ (all : List ℕ). inspect_start all) (sym comes.0)

-- ---- what `log` writes

module _ (sheet text : List ℕ) (opens : (opened_run (read_plan sheet)).number ≡ 0) where
  was_read : (read_plan sheet).number ≡ 0
  was_read = (then_none _ _ opens).0

  judged : judged_plan (set_from sheet) (alloc_from sheet) ≡ 0
  judged = (runs.promised).sheet_judged sheet was_read

  its_entries : entries_for sheet text ≡ entries_of 0 (set_from sheet) (alloc_from sheet) (calls_of text)
  its_entries = (records.promised).run_log sheet text opens

  its_log : written sheet text ≡ log_of (set_from sheet) (alloc_from sheet) (entries_of 0 (set_from sheet) (alloc_from sheet) (calls_of text))
  its_log = (records.promised).a_log sheet text opens ∙ ap (log_of (set_from sheet) (alloc_from sheet)) its_entries

  -- a record for each that was told of
  its_count : length (entries_for sheet text) ≡ length (told_in (events_of (set_from sheet) (alloc_from sheet) (calls_of text)))
  its_count =
      let told = told_in (events_of (set_from sheet) (alloc_from sheet) (calls_of text)) in
      ap length its_entries ∙ length-map (reverse told) (says 0) ∙ length-reverse told

  accepted : finding_in (written sheet text) ≡ record { records = length (entries_for sheet text); «record» = 0; rule = 0; number = 0 }
  accepted = ap finding_in its_log ∙ (inspections.promised).log_of_run (set_from sheet) (alloc_from sheet) 0 (calls_of text) judged ∙ rw its_count refl

  no_number : (finding_in (written sheet text)).number ≡ 0
  no_number = ap (λ (f : Finding). f.number) accepted

  no_rule : (finding_in (written sheet text)).rule ≡ 0
  no_rule = ap (λ (f : Finding). f.rule) accepted

  all_counted : (finding_in (written sheet text)).records ≡ length (entries_for sheet text)
  all_counted = ap (λ (f : Finding). f.records) accepted

  ends_with_0 : is_accepted (inspect_start (written sheet text)) ≡ true
  ends_with_0 = ((texts.promised).status (written sheet text)).1 (no_number, no_rule)

  said : length (entries_for sheet text) < 2 ^ 64 → finding_text (inspect_start (written sheet text)) ≡ accepted_line (length (entries_for sheet text))
  said few =
      (texts.promised).accepted (written sheet text) no_number (subst (λ (n : ℕ). n < 2 ^ 64) (sym all_counted) few) no_rule
      ∙ ap (λ (n : ℕ). accepted_line n) all_counted

-- ---- what an accepted log shows

shown : (bs first : List ℕ) (pieces : List (List ℕ)) → AllBytes bs → length bs < 2 ^ 64 → ComesIn bs first pieces → is_accepted (inspect_pieces (inspect_start first) pieces) ≡ true
    → Shows (read_log bs).set (read_log bs).alloc (entries_in bs)
shown bs first pieces bytes short comes ends =
    let found = ((texts.promised).status bs).0 (sym (ap (λ (k : Inspecting). is_accepted k) (kept_whole bs first pieces comes)) ∙ ends) in
    (logs.promised).log_shows bs bytes short found.0 found.1

pub promised : Promised
promised =
    record {
      accepted = accepted;
      status = λ sheet text first pieces opens comes. ap (λ (k : Inspecting). is_accepted k) (kept_whole (written sheet text) first pieces comes) ∙ ends_with_0 sheet text opens;
      printed = λ sheet text first pieces opens comes few. ap (λ (k : Inspecting). finding_text k) (kept_whole (written sheet text) first pieces comes) ∙ said sheet text opens few;
      shows = shown;
    }
