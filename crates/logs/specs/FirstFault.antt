-- 1, 2 and 3 of a log go by the first fault from the left of the whole log: as `field_reader/specs/FirstFault.antt` has it for sheets, with the records behind the plan's fields.
use Rattle.std.specs.Prelude.{◌≡◌, ℕ, ◌+◌, ◌<◌, ◌≤◌, true, false, List, length}
use Rattle.fields.specs.Fields.{end_tag, left, tag_at, size_at, behind, FieldWhole}
use Rattle.fields.specs.declared.Passed.{Passed}
use Rattle.field_reader.specs.FirstFault.{WellFormed}
use Rattle.sheets.specs.Reading.{plan_passed}
use Rattle.logs.specs.Records.{is_record}
use Rattle.logs.specs.Walked.{log_allowed_at}

-- the fields from the start of the log up to the place are all whole, and each was allowed at its place; `Passed` says which of the plan's they are, and n how many records stand behind them
pub data LogFormed (bs : List ℕ) (p : Passed) : ℕ → ℕ → Type 0 where
  in_plan : {a : ℕ} → WellFormed true bs p a → LogFormed bs p 0 a
  a_record : {n a : ℕ}
      → LogFormed bs p n a → plan_passed p ≡ true → is_record bs a ≡ true → behind bs a ≤ length bs
      → LogFormed bs p (n + 1) (behind bs a)

-- the fault at a place, with its number
pub data LogFault (bs : List ℕ) (a : ℕ) (p : Passed) : ℕ → Type 0 where
  -- fewer than three bytes left gives 1
  no_start : left bs a < 3 → LogFault bs a p 1
  -- then a tag or length not allowed there gives 2
  not_allowed : 3 ≤ left bs a → log_allowed_at bs a p ≡ false → LogFault bs a p 2
  -- then a body cut short gives 1
  cut_body : 3 ≤ left bs a → log_allowed_at bs a p ≡ true → left bs (a + 3) < size_at bs a → LogFault bs a p 1
  -- a byte that follows the end field gives 3
  follows : FieldWhole bs a p → tag_at bs a ≡ end_tag → behind bs a < length bs → LogFault bs a p 3

-- the first fault from the left: all before the place is well-formed, and the fault is at the place
pub record FirstLogFault (bs : List ℕ) (number : ℕ) : Type 0 where
  pub passed : Passed
  pub records : ℕ
  pub place : ℕ
  pub before : LogFormed bs passed records place
  pub fault : LogFault bs place passed number

-- no fault: all fields are well-formed, the end field stands behind them, and nothing follows it
pub record WholeLog (bs : List ℕ) : Type 0 where
  pub passed : Passed
  pub records : ℕ
  pub place : ℕ
  pub before : LogFormed bs passed records place
  pub end_whole : FieldWhole bs place passed
  pub end_tag_lem : tag_at bs place ≡ end_tag
  pub nothing_follows : length bs ≡ behind bs place
