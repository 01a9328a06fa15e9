-- What is promised of the log that `log` writes; `proofs/Promised.antt` proves it.
use Rattle.std.specs.Prelude.{ℕ, ◌-◌, ◌<◌, ◌≡◌, true, false, None, Some, List, [], ◌∷◌, ◌++◌, reverse, ◌≢◌, ◌↔◌, length}
use Rattle.sets.specs.declared.Set.{Set}
use Rattle.plans.specs.Rules.{Retired}
use Rattle.plans.specs.declared.Alloc.{Alloc}
use Rattle.sheets.specs.Layout.{fields_of, end_bytes}
use Rattle.sheets.specs.Reading.{read_plan}
use Rattle.sheet_rules.specs.Promised.{plan_length}
use Rattle.rings.specs.State.{count}
use Rattle.rings.specs.Steps.{visited}
use Rattle.rings.specs.Marking.{marked, unmarked}
use Rattle.rings.specs.declared.Ring.{Ring}
use Rattle.rings.specs.declared.VisitRecord.{VisitRecord}
use Rattle.log_records.specs.declared.Entry.{Entry}
use Rattle.log_records.specs.declared.Entry.TheVariants.{Visit, Mark}
use Rattle.logs.specs.Layout.{log_of}
use Rattle.logs.specs.Reading.{read_log, entries_in}
use Rattle.logs.specs.Writing.{visit_of}
use Rattle.promises.specs.Run.{records_of, ring_of}
use Rattle.log_rules.specs.Recorded.{entries_of}
use Rattle.text.specs.Text.{newline}
use Rattle.line_reader.specs.Scan.{is_empty_line, next_line}
use Rattle.line_reader.specs.declared.Scan.{Scan}
use Rattle.command_run.specs.Calls.{is_visit, ask_in, is_mark, is_unmark, station_in, called}
use Rattle.command_run.specs.Runs.{opened_run, unread_at, run_after, some_unread, lines_in, with_end}
use Rattle.command_run.specs.declared.Run.{Run}
use Rattle.command_log.specs.LogBytes.{record_from, entries_by, record_after, logged_over, open_number}
use Rattle.command_log.specs.declared.Recording.{Recording}
use Rattle.command_log_rules.specs.Calls.{calls_of, visits_over, entries_over}

-- ---- a sheet, and a text of calls

-- the plan of the sheet
abbrev pub set_from : List ℕ → Set
set_from sheet = (read_plan sheet).set

abbrev pub alloc_from : List ℕ → Alloc
alloc_from sheet = (read_plan sheet).alloc

-- the run that it opens
abbrev pub run_for : List ℕ → Run
run_for sheet = (opened_run (read_plan sheet)).run

-- the plan is read, and opened
abbrev pub Opens : List ℕ → Type 0
Opens sheet = (opened_run (read_plan sheet)).number ≡ 0

-- what `log` writes: the plan's fields, those of the visits and the marks, and the end
abbrev pub written : List ℕ → List ℕ → List ℕ
written sheet text =
    fields_of true (set_from sheet) (alloc_from sheet) ++ logged_over (record_from (run_for sheet)) (with_end text) ++ end_bytes

-- where its recording stands then
abbrev pub recording_of : List ℕ → List ℕ → Recording
recording_of sheet text = record_after (record_from (run_for sheet)) (with_end text)

-- the visits that were accepted, and the entries of all that was recorded
abbrev pub visits_for : List ℕ → List ℕ → List VisitRecord
visits_for sheet text = visits_over (run_for sheet) (with_end text)

abbrev pub entries_for : List ℕ → List ℕ → List Entry
entries_for sheet text = entries_over (run_for sheet) (with_end text)

-- ---- the promises

-- what reading gives of these bytes: the plan as it was read from its sheet, and the entries one after another
pub record ReadsBack (sheet text bytes : List ℕ) : Type 0 where
  pub answer : read_log bytes
      ≡ record {
        set = set_from sheet;
        alloc = alloc_from sheet;
        first = plan_length (set_from sheet) - 3;
        records = length (entries_for sheet text);
        number = 0;
      }
  pub entries : entries_in bytes ≡ entries_for sheet text

pub record Promised : Type 0 where
  -- ---- what goes out
  -- the calls may be read in pieces of any length
  pub pieces_behind : (k : Recording) (first rest : List ℕ)
      → record_after k (first ++ rest) ≡ record_after (record_after k first) rest
  pub pieces_logged : (k : Recording) (first rest : List ℕ)
      → logged_over k (first ++ rest) ≡ logged_over k first ++ logged_over (record_after k first) rest
  -- the ring is the one that `run` has behind the same calls
  pub same_run : (k : Recording) (text : List ℕ) → (record_after k text).run ≡ run_after k.run text
  -- a line that is a visit is recorded with the record that `run` prints for it, and only if it is accepted
  pub visit_recorded : (ring : Ring) (s : Scan) (counter clock : ℕ)
      → is_empty_line s ≡ false → is_visit s ≡ true → (visited ring (ask_in s)).answer.number ≡ 0
      → entries_by counter clock (called ring s).answer
      ≡ Visit (visit_of counter clock (visited ring (ask_in s)).answer.«record») ∷ []
  pub refused_not : (ring : Ring) (s : Scan) (counter clock : ℕ)
      → is_empty_line s ≡ false → is_visit s ≡ true → (visited ring (ask_in s)).answer.number ≢ 0
      → entries_by counter clock (called ring s).answer ≡ []
  -- one that is a marking with its station and 1, if it is accepted, also where it changed nothing. The station is one of the ring's
  pub mark_recorded : (ring : Ring) (s : Scan) (counter clock : ℕ)
      → is_mark s ≡ true → (marked ring (station_in s)).answer.number ≡ 0
      → (entries_by counter clock (called ring s).answer ≡ Mark (record { station = (station_in s).0; mark = 1 }) ∷ [])
      × ((station_in s).0 < count ring)
  pub marking_refused_not : (ring : Ring) (s : Scan) (counter clock : ℕ)
      → is_mark s ≡ true → (marked ring (station_in s)).answer.number ≢ 0
      → entries_by counter clock (called ring s).answer ≡ []
  -- and one that is an unmarking with its station and 0
  pub unmark_recorded : (ring : Ring) (s : Scan) (counter clock : ℕ)
      → is_unmark s ≡ true → (unmarked ring (station_in s)).number ≡ 0
      → (entries_by counter clock (called ring s).answer ≡ Mark (record { station = (station_in s).0; mark = 0 }) ∷ [])
      × ((station_in s).0 < count ring)
  pub unmarking_refused_not : (ring : Ring) (s : Scan) (counter clock : ℕ)
      → is_unmark s ≡ true → (unmarked ring (station_in s)).number ≢ 0
      → entries_by counter clock (called ring s).answer ≡ []
  -- no other line is
  pub other_not : (ring : Ring) (s : Scan) (counter clock : ℕ)
      → is_visit s ≡ false → is_mark s ≡ false → is_unmark s ≡ false → entries_by counter clock (called ring s).answer ≡ []
  -- ---- what the status goes by
  -- no line is named exactly if every line of the text can be read
  pub unread_none : (sheet text : List ℕ)
      → ((recording_of sheet text).unread ≡ None) ↔ (some_unread (run_for sheet) (with_end text) ≡ false)
  -- else it is the first line that cannot: each line before it can be read
  pub unread_first : (sheet text first rest : List ℕ) → with_end text ≡ first ++ (newline ∷ rest)
      → some_unread (run_for sheet) first ≡ false → unread_at (run_after (run_for sheet) first) newline ≡ true
      → (recording_of sheet text).unread ≡ Some (next_line (lines_in first))
  -- ---- the log
  -- `run` and `log` open exactly the plans that are read and not FDDI's. So what follows is of both editions of timely-token; of every run of an FDDI ring `log_rules` says how it is written
  pub opens : (sheet : List ℕ) → Opens sheet ↔ (((read_plan sheet).number ≡ 0) × ¬ Retired (set_from sheet))
  -- `run` answers 16 exactly if the plan is read and FDDI's; so a plan that breaks a rule is 7 here in every mode
  pub run_retired : (sheet : List ℕ)
      → ((opened_run (read_plan sheet)).number ≡ 16) ↔ (((read_plan sheet).number ≡ 0) × Retired (set_from sheet))
  -- and so does `log`, whatever room its buffer has
  pub log_retired : (sheet : List ℕ) (room : ℕ)
      → (open_number (read_plan sheet) room ≡ 16) ↔ (((read_plan sheet).number ≡ 0) × Retired (set_from sheet))
  -- the text's calls are a run of the model: its records, the latest first, are those of the visits that `log` records, and its ring is the one behind the text.
  -- So all that is promised of runs holds of them
  pub run_records : (sheet text : List ℕ)
      → Opens sheet → records_of (set_from sheet) (alloc_from sheet) (calls_of text) ≡ reverse (visits_for sheet text)
  pub run_ring : (sheet text : List ℕ)
      → Opens sheet
      → ring_of (set_from sheet) (alloc_from sheet) (calls_of text) ≡ (run_after (run_for sheet) (with_end text)).ring
  -- what `log` writes is the log of the plan that was opened and of what was recorded
  pub a_log : (sheet text : List ℕ)
      → Opens sheet → written sheet text ≡ log_of (set_from sheet) (alloc_from sheet) (entries_for sheet text)
  -- these are the entries of that run: the numbers of its visits, their starts by the clock modulo 2^32, and its markings and unmarkings
  pub run_log : (sheet text : List ℕ)
      → Opens sheet → entries_for sheet text ≡ entries_of 0 (set_from sheet) (alloc_from sheet) (calls_of text)
  -- and reading gives back the plan and the entries
  pub reads_back : (sheet text : List ℕ) → Opens sheet → ReadsBack sheet text (written sheet text)
