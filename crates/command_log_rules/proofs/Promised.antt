-- The promises hold because the text's calls are a run, its log is what goes out, and a run's log is read back.
use Prim.Native.Nat.{ℕ}
use mathlib.Core.Path.{◌≡◌, refl, sym, ap, ◌∙◌}
use mathlib.Core.List.{List, [], ◌∷◌, map, reverse}
use Rattle.std.specs.Prelude.{Some}
use Rattle.plans.specs.Planned.{judged_plan}
use Rattle.sheets.specs.Reading.{read_plan}
use Rattle.sheets.proofs.ReadLaws.{then_none}
use Rattle.rings.specs.Opening.{opening}
use Rattle.log_records.specs.declared.Entry.TheVariants.{Mark}
use Rattle.logs.specs.Layout.{log_of}
use Rattle.logs.specs.Reading.{read_log, entries_in}
use Rattle.promises.specs.Run.{opened, run, records_of, events_of}
use Rattle.promises.proofs.Promised as runs
use Rattle.log_rules.specs.Recorded.{entry_for, told_in, entries_of}
use Rattle.log_rules.specs.Promised.{GivesBack}
use Rattle.log_rules.proofs.RunLaws.{run_entries}
use Rattle.log_rules.proofs.Promised as logs
use Rattle.command_run.specs.Calls.{station_in}
use Rattle.command_run.specs.Runs.{with_end}
use Rattle.command_run.proofs.Promised as calls
use Rattle.command_run.proofs.ByteLaws.{moved_append, out_append}
use Rattle.command_log.specs.LogBytes.{record_from, record_on, logged_at}
use Rattle.command_log.proofs.RecordLaws.{left_one, left_none}
use Rattle.command_log_rules.specs.Calls.{calls_of}
use Rattle.command_log_rules.specs.Promised.{set_from, alloc_from, run_for, Opens, written, visits_for, entries_for, ReadsBack, Promised}
use Rattle.command_log_rules.proofs.LoggedLaws.{run_same, whole_log, recorded_visit, recorded_mark, recorded_unmark, not_recorded}
use Rattle.command_log_rules.proofs.UnreadLaws.{none_named, first_named}
use Rattle.command_log_rules.proofs.CallLaws.{told_over, text_entries, mark_inside, unmark_inside, station_small, Runs, text_runs, twice}
use Rattle.command_log_rules.proofs.PlanLaws.{first_set, first_alloc}
use Rattle.command_log_rules.proofs.OpenLaws.{opened_exactly, run_retired, log_retired}

module _ (sheet : List ℕ) (opens : Opens sheet) where
  was_read : (read_plan sheet).number ≡ 0
  was_read = (then_none _ _ opens).0

  opening_0 : (opening (set_from sheet) (alloc_from sheet)).number ≡ 0
  opening_0 = (then_none _ _ opens).1

  judged_0 : judged_plan (set_from sheet) (alloc_from sheet) ≡ 0
  judged_0 = (((runs.promised).opens (set_from sheet) (alloc_from sheet)).0 opening_0).0

  module _ (text : List ℕ) where
    its_run : Runs (with_end text) (run_for sheet) (opened (set_from sheet) (alloc_from sheet))
    unfolding run
    its_run = text_runs (with_end text) (run_for sheet) (opened (set_from sheet) (alloc_from sheet)) ((runs.promised).opened (set_from sheet) (alloc_from sheet) opening_0)

    its_records : records_of (set_from sheet) (alloc_from sheet) (calls_of text) ≡ reverse (visits_for sheet text)
    its_records = its_run.1

    in_order : told_over (run_for sheet) (with_end text) ≡ reverse (told_in (events_of (set_from sheet) (alloc_from sheet) (calls_of text)))
    in_order = sym (ap reverse its_run.2 ∙ twice (told_over (run_for sheet) (with_end text)))

    its_entries : entries_for sheet text ≡ entries_of 0 (set_from sheet) (alloc_from sheet) (calls_of text)
    its_entries = text_entries (with_end text) (run_for sheet) ∙ ap (map (entry_for 0 0)) in_order ∙ run_entries (set_from sheet) (alloc_from sheet) 0 (calls_of text)

    its_log : written sheet text ≡ log_of (set_from sheet) (alloc_from sheet) (entries_for sheet text)
    its_log = whole_log (set_from sheet) (alloc_from sheet) (run_for sheet) (with_end text)

    back : GivesBack (set_from sheet) (alloc_from sheet) (entries_for sheet text) (log_of (set_from sheet) (alloc_from sheet) (entries_for sheet text))
    back = rw its_entries ((logs.promised).run_back (set_from sheet) (alloc_from sheet) 0 (calls_of text) judged_0)

    reads : ReadsBack sheet text (written sheet text)
    reads =
        record {
          answer = ap read_log its_log ∙ back.answer ∙ rw (first_set sheet was_read, first_alloc sheet was_read) refl;
          entries = ap entries_in its_log ∙ back.entries;
        }

-- the mark of a station whose number fits
one_mark : {station number : ℕ} (on : ℕ) → number ≡ station → Mark (record { station = number; mark = on }) ∷ [] ≡ Mark (record { station = station; mark = on }) ∷ []
one_mark on e = ap (λ (n : ℕ). Mark (record { station = n; mark = on }) ∷ []) e

pub promised : Promised
promised =
    record {
      pieces_behind = moved_append record_on;
      pieces_logged = out_append record_on logged_at;
      same_run = run_same;
      visit_recorded = λ ring s counter clock e i z. recorded_visit ring s counter clock e i ∙ left_one _ _ z;
      refused_not = λ ring s counter clock e i z. recorded_visit ring s counter clock e i ∙ left_none _ _ z;
      mark_recorded = λ ring s counter clock i z.
          let inside = mark_inside ring (station_in s) z in
          (recorded_mark ring s counter clock i ∙ left_one _ _ z ∙ one_mark 1 (station_small ring (station_in s) inside), inside.1);
      marking_refused_not = λ ring s counter clock i z. recorded_mark ring s counter clock i ∙ left_none _ _ z;
      unmark_recorded = λ ring s counter clock i z.
          let inside = unmark_inside ring (station_in s) z in
          (recorded_unmark ring s counter clock i ∙ left_one _ _ z ∙ one_mark 0 (station_small ring (station_in s) inside), inside.1);
      unmarking_refused_not = λ ring s counter clock i z. recorded_unmark ring s counter clock i ∙ left_none _ _ z;
      other_not = not_recorded;
      unread_none = λ sheet text. none_named (record_from (run_for sheet)) (with_end text) refl;
      unread_first = λ sheet text first rest e quiet there.
          first_named (record_from (run_for sheet)) (with_end text) first rest refl e quiet there ∙ ap Some ((calls.promised).numbered (run_for sheet).ring first);
      opens = opened_exactly;
      run_retired = run_retired;
      log_retired = log_retired;
      run_records = λ sheet text opens. its_records sheet opens text;
      run_ring = λ sheet text opens. (its_run sheet opens text).0;
      a_log = λ sheet text opens. its_log sheet opens text;
      run_log = λ sheet text opens. its_entries sheet opens text;
      reads_back = λ sheet text opens. reads sheet opens text;
    }
