-- What the inspection of a log against a plan sheet answers, for any bytes whatever (the yard's question).
use Rattle.std.specs.Prelude.{ℕ, ◌+◌, ◌≡◌, cond, List, [], ◌∷◌, eqb}
use Rattle.sets.specs.Lent.{set_of}
use Rattle.sets.specs.declared.Head.{Head}
use Rattle.plans.specs.Lent.{alloc_of}
use Rattle.sheets.specs.Reading.{read_plan}
use Rattle.log_records.specs.declared.Entry.{Entry}
use Rattle.log_records.specs.declared.Entry.TheVariants.{Visit, Mark}
use Rattle.logs.specs.Reading.{read_log, entries_in}
use Rattle.differences.specs.Differences.{is_same_plan}
use Rattle.inspection.specs.Records.{inspected_all}
use Rattle.inspection.specs.Findings.{finding_of, found_in}
use Rattle.inspection.specs.declared.Inspection.{Inspection}
use Rattle.inspection.specs.declared.Finding.{Finding}
use Rattle.plan_inspections.specs.declared.PlanFinding.{PlanFinding}

-- ---- visits among the records

abbrev pub visit_count : Entry → ℕ
visit_count (Visit v) = 1
visit_count (Mark m) = 0

unfoldable pub visits_in : List Entry → ℕ
visits_in [] = 0
visits_in (e ∷ es) = visit_count e + visits_in es

-- ---- the answer

-- nothing was inspected: a side is refused with a number, or the plan is another one
abbrev pub not_inspected : ℕ → ℕ → ℕ → PlanFinding
not_inspected side number another =
    record { records = 0; visits = 0; «record» = 0; rule = 0; refused = side; number = number; another = another }

-- a finding, and how many of the records are visits
abbrev pub with_visits : Finding → ℕ → PlanFinding
with_visits f visits =
    record {
      records = f.records;
      visits = visits;
      «record» = f.«record»;
      rule = f.rule;
      refused = 0;
      number = 0;
      another = 0;
    }

-- r is what is found of so many records more with these w and S: C, D and P have no part in it
abbrev pub FoundLent : Inspection → Head → ℕ → List ℕ → List ℕ → List Entry → ℕ → PlanFinding → Type 0
FoundLent begun head n w s es records r =
    (c d p : List ℕ)
    → r ≡ with_visits (finding_of (inspected_all begun (set_of head n w c d p) (alloc_of s) es) records) (visits_in es)

-- both are read: the finding of the log, if its plan is the plan sheet's
unfoldable pub compared_finding : List ℕ → List ℕ → PlanFinding
compared_finding plan log =
    cond (is_same_plan (read_plan plan).set (read_plan plan).alloc (read_log log).set (read_log log).alloc)
    (with_visits (found_in log) (visits_in (entries_in log))) (not_inspected 0 0 1)

-- the plan sheet's refusal (side 1), the log's (side 2), another plan, or the finding
unfoldable pub plan_finding : List ℕ → List ℕ → PlanFinding
plan_finding plan log =
    cond (eqb (read_plan plan).number 0)
    (cond (eqb (read_log log).number 0) (compared_finding plan log) (not_inspected 2 (read_log log).number 0))
    (not_inspected 1 (read_plan plan).number 0)
