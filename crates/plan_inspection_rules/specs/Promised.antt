-- What is promised of `inspect PLAN < LOG` (the yard's question); `proofs/Promised.antt` proves it.
use Rattle.std.specs.Prelude.{ℕ, ◌^◌, ◌≤◌, ◌<◌, ◌≡◌, true, List, [], ◌∷◌, ◌++◌, ◌≢◌, ◌↔◌, length, take}
use Rattle.fields.specs.Bytes.{AllBytes}
use Rattle.sheets.specs.Layout.{plan_read}
use Rattle.sheets.specs.Reading.{read_plan}
use Rattle.logs.specs.Reading.{read_log, entries_in}
use Rattle.inspection.specs.Findings.{finding_in}
use Rattle.inspection_rules.specs.Gives.{Gives}
use Rattle.inspection_rules.specs.Broken.{FirstBroken}
use Rattle.accepted_log_rules.specs.Shows.{Shows}
use Rattle.text.specs.Text.{line, decimal_of, refused_word, refused_line, page_size, Printed}
use Rattle.differences.specs.Views.{view_of, SamePlan}
use Rattle.differences.specs.Differences.{Difference, differences}
use Rattle.differences.specs.Promised.{Lists}
use Rattle.command_diff.specs.DiffText.{lines_of, diff_printed}
use Rattle.plan_inspections.specs.PlanFindings.{visits_in, not_inspected, with_visits, plan_finding}
use Rattle.inspection_stream.specs.Inspecting.{inspect_start}
use Rattle.command_inspect.specs.FindingText.{accepted_line, finding_text}
use Rattle.command_inspect.specs.Promised.{Names}
use Rattle.command_inspect.specs.declared.Found.{Found}
use Rattle.command_inspect_plan.specs.InspectText.{plan_word, another_line, answer_text, is_answered, AnsweredOn}
use Rattle.log_inspection_rules.specs.Promised.{inspect_pieces, ComesIn}

-- ---- of the bytes of PLAN and of the log

-- what is printed
abbrev pub printed_of : List ℕ → List ℕ → List ℕ
printed_of plan log = answer_text (read_plan plan) (inspect_start log)

-- both are read
abbrev pub BothRead : List ℕ → List ℕ → Type 0
BothRead plan log = ((read_plan plan).number ≡ 0) × ((read_log log).number ≡ 0)

-- the plan of PLAN and the log's are the same in every number of the header and of each station
abbrev pub SamePlans : List ℕ → List ℕ → Type 0
SamePlans plan log =
    SamePlan (view_of (read_plan plan).set (read_plan plan).alloc) (view_of (read_log log).set (read_log log).alloc)

-- the differences from the plan of PLAN to the log's
abbrev pub differences_to : List ℕ → List ℕ → List Difference
differences_to plan log = differences (read_plan plan).set (read_plan plan).alloc (read_log log).set (read_log log).alloc

-- a list of them: applied to PLAN's plan it gives the log's, all of it differs, and the order is that of 02
abbrev pub ListsTo : List ℕ → List ℕ → List Difference → Type 0
ListsTo plan log ds = Lists (read_plan plan).set (read_plan plan).alloc (read_log log).set (read_log log).alloc ds

-- what the yard asks: both are read, the plans do not differ, and a run of the plan in PLAN could give the log's records
pub record Kept (plan log : List ℕ) : Type 0 where
  pub read : BothRead plan log
  pub same : SamePlans plan log
  pub gives : Gives (read_plan plan).set (read_plan plan).alloc (entries_in log)

-- ---- lines that are promised to the byte, each with its end

-- "another plan"
abbrev pub another_said : List ℕ
another_said = 97 ∷ 110 ∷ 111 ∷ 116 ∷ 104 ∷ 101 ∷ 114 ∷ 32 ∷ 112 ∷ 108 ∷ 97 ∷ 110 ∷ 10 ∷ []

-- "plan refused 1"
abbrev pub plan_refused : List ℕ
plan_refused = 112 ∷ 108 ∷ 97 ∷ 110 ∷ 32 ∷ 114 ∷ 101 ∷ 102 ∷ 117 ∷ 115 ∷ 101 ∷ 100 ∷ 32 ∷ 49 ∷ 10 ∷ []

-- `AllBytes` and the length hold of any log that is read
pub record Promised : Type 0 where
  -- ---- one answer, in this order
  -- the refusal of PLAN, whatever the log is
  pub plan_refused_lem : (plan log : List ℕ)
      → (read_plan plan).number ≢ 0
      → printed_of plan log ≡ line (plan_word ∷ refused_word ∷ decimal_of (read_plan plan).number ∷ [])
  -- the refusal of the log
  pub log_refused : (plan log : List ℕ)
      → (read_plan plan).number ≡ 0 → (read_log log).number ≢ 0 → printed_of plan log ≡ refused_line (read_log log).number
  -- `another plan` and the lines of what differs, from PLAN's plan to the log's
  pub another : (plan log : List ℕ) → AllBytes log → length log < 2 ^ 64 → BothRead plan log → ¬ SamePlans plan log
      → (printed_of plan log ≡ another_line ++ lines_of (differences_to plan log))
      × ListsTo plan log (differences_to plan log)
  -- which are the lines that `diff` prints, where a sheet holds the log's plan
  pub as_diff : (plan log sheet : List ℕ)
      → AllBytes log → length log < 2 ^ 64 → BothRead plan log → ¬ SamePlans plan log → (read_plan sheet).number ≡ 0
      → (read_plan sheet).set ≡ (read_log log).set
      → (read_plan sheet).alloc ≡ (read_log log).alloc → printed_of plan log ≡ another_line ++ diff_printed plan sheet
  -- what `inspect` prints without PLAN
  pub as_ever : (plan log : List ℕ)
      → BothRead plan log → SamePlans plan log → printed_of plan log ≡ finding_text (inspect_start log)
  -- to the byte
  pub another_worded : another_line ≡ another_said
  pub refused_worded : line (plan_word ∷ refused_word ∷ decimal_of 1 ∷ []) ≡ plan_refused
  -- ---- when the log is accepted
  -- exactly if both are read, the plans do not differ, and a run of the plan in PLAN could give the records
  pub accepted : (plan log : List ℕ)
      → AllBytes log → length log < 2 ^ 64 → (is_answered (read_plan plan) (inspect_start log) ≡ true) ↔ Kept plan log
  -- and then `accepted` is printed, with the number of the records
  pub said : (plan log : List ℕ)
      → AllBytes log → length log < 2 ^ 64 → Kept plan log → printed_of plan log ≡ accepted_line (length (entries_in log))
  -- and its records then show, of the plan in PLAN, what those of an accepted log show
  pub shows : (plan log : List ℕ) → Kept plan log → Shows (read_plan plan).set (read_plan plan).alloc (entries_in log)
  -- where only the records are at fault, the first that breaks a rule is named, with that rule of a run of the plan in PLAN
  pub broken : (plan log : List ℕ)
      → AllBytes log → length log < 2 ^ 64 → BothRead plan log → SamePlans plan log → ¬ Kept plan log
      → Names log (printed_of plan log)
      × FirstBroken (read_plan plan).set (read_plan plan).alloc (entries_in log) (finding_in log).«record»
      (finding_in log).rule
  -- ---- a log of any length
  -- in whatever pieces it comes, what is printed is that of its bytes as a whole
  pub pieces : (plan log first : List ℕ) (pieces : List (List ℕ))
      → ComesIn log first pieces
      → answer_text (read_plan plan) (inspect_pieces (inspect_start first) pieces) ≡ printed_of plan log
  -- and what is handed back, by which the status goes, tells whether it is accepted, on any page on which the text has room
  pub told : (plan log first : List ℕ) (pieces : List (List ℕ)) (before after : List ℕ) (r : Found)
      → AllBytes log → length log < 2 ^ 64 → ComesIn log first pieces
      → AnsweredOn (read_plan plan) (inspect_pieces (inspect_start first) pieces) before after r → page_size ≤ length before
      → ((r.accepted ≡ true) ↔ Kept plan log) × Printed (printed_of plan log) before after r.length
  -- ---- for a host: the same answer as numbers
  pub host_plan_refused : (plan log : List ℕ)
      → (read_plan plan).number ≢ 0 → plan_finding plan log ≡ not_inspected 1 (read_plan plan).number 0
  pub host_log_refused : (plan log : List ℕ)
      → (read_plan plan).number ≡ 0 → (read_log log).number ≢ 0
      → plan_finding plan log ≡ not_inspected 2 (read_log log).number 0
  pub host_another : (plan log : List ℕ)
      → BothRead plan log → ¬ SamePlans plan log → plan_finding plan log ≡ not_inspected 0 0 1
  pub host_found : (plan log : List ℕ)
      → BothRead plan log → SamePlans plan log
      → plan_finding plan log ≡ with_visits (finding_in log) (visits_in (entries_in log))
  -- none is refused, the plan is no other one and no rule is named exactly where the log is accepted
  pub host_accepted : (plan log : List ℕ) → AllBytes log → length log < 2 ^ 64
      → let f = plan_finding plan log in ((f.refused ≡ 0) × (f.another ≡ 0) × (f.rule ≡ 0)) ↔ Kept plan log
  -- ---- the first 3,357 bytes of PLAN, or more, are enough
  pub enough_read : (plan log : List ℕ) (n : ℕ) → plan_read ≤ n → printed_of (take n plan) log ≡ printed_of plan log
