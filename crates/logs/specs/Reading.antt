-- What reading a log answers, for any bytes whatever; and how its records are handed out.
use Rattle.std.specs.Prelude.{ℕ, zero, suc, true, List, [], ◌∷◌}
use Rattle.sets.specs.Judged.{blank_set}
use Rattle.sets.specs.declared.Set.{Set}
use Rattle.plans.specs.Planned.{judged_plan, blank_alloc}
use Rattle.plans.specs.declared.Alloc.{Alloc}
use Rattle.field_reader.specs.Scanned.{scanned}
use Rattle.log_records.specs.Entry.{next_entry}
use Rattle.log_records.specs.declared.Entry.{Entry}
use Rattle.sheets.specs.Reading.{then_number, set_in, alloc_in}
use Rattle.logs.specs.Walked.{log_walked}
use Rattle.logs.specs.declared.ReadLog.{ReadLog}

-- 1, 2, 3 by the first fault from the left of the whole log; then 4, 5 and 7 of its plan
abbrev pub log_number : List ℕ → ℕ
log_number bs = then_number (log_walked bs).number (judged_plan (set_in true bs) (alloc_in true bs))

-- a refused answer is blank
abbrev pub refused_log : ℕ → ReadLog
refused_log k = record { set = blank_set; alloc = blank_alloc; first = 0; records = 0; number = k }

unfoldable pub log_answer : ℕ → Set → Alloc → ℕ → ℕ → ReadLog
log_answer zero t a first records = record { set = t; alloc = a; first = first; records = records; number = 0 }
log_answer (suc k) t a first records = refused_log (suc k)

-- the plan that its fields hold, the place of the first field behind them, and how many records stand there
unfoldable pub read_log : List ℕ → ReadLog
read_log bs = log_answer (log_number bs) (set_in true bs) (alloc_in true bs) (scanned true bs).at (log_walked bs).records

-- n entries handed out one after another, the first at the place a, each next one at the place behind the one before
unfoldable pub handed_from : ℕ → List ℕ → ℕ → List Entry
handed_from zero bs a = []
handed_from (suc n) bs a = (next_entry bs a).entry ∷ handed_from n bs (next_entry bs a).next

-- the entries of a log: as many as were read, from the place that was read
abbrev pub entries_in : List ℕ → List Entry
entries_in bs = handed_from (read_log bs).records bs (read_log bs).first
