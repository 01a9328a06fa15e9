-- 1, 2 and 3 go by the first fault from the left of the sheet: as 01 has it, field after field, in sentences.
-- A sheet is refused with 1, 2 or 3 where all fields before a place are whole and allowed at their places, and the fault is there.
use Rattle.std.specs.Prelude.{ℕ, ◌+◌, ◌≤◌, ◌<◌, ◌≡◌, Bool, true, false, List, ◌≢◌, length}
use Rattle.fields.specs.Fields.{end_tag, left, tag_at, size_at, behind, allowed_at, FieldWhole}
use Rattle.fields.specs.declared.Passed.{Passed}
use Rattle.field_reader.specs.Scanned.{nothing_passed, with_field}

-- the fields from the start of the sheet up to the place are all whole, and each was allowed at its place; `Passed` says which they are
pub data WellFormed (plan : Bool) (bs : List ℕ) : Passed → ℕ → Type 0 where
  start : WellFormed plan bs (nothing_passed plan) 0
  more : {p : Passed} {a : ℕ}
      → WellFormed plan bs p a → FieldWhole bs a p → tag_at bs a ≢ end_tag
      → WellFormed plan bs (with_field p (tag_at bs a) (behind bs a)) (behind bs a)

-- the fault at a place, with its number
pub data Fault (bs : List ℕ) (a : ℕ) (p : Passed) : ℕ → Type 0 where
  -- fewer than three bytes left gives 1
  no_start : left bs a < 3 → Fault bs a p 1
  -- then a tag or length not allowed there gives 2
  not_allowed : 3 ≤ left bs a → allowed_at bs a p ≡ false → Fault bs a p 2
  -- then a body cut short gives 1
  cut_body : 3 ≤ left bs a → allowed_at bs a p ≡ true → left bs (a + 3) < size_at bs a → Fault bs a p 1
  -- a byte that follows the end field gives 3
  follows : FieldWhole bs a p → tag_at bs a ≡ end_tag → behind bs a < length bs → Fault bs a p 3

-- the first fault from the left: all before the place is well-formed, and the fault is at the place
pub record FirstFault (plan : Bool) (bs : List ℕ) (number : ℕ) : Type 0 where
  pub passed : Passed
  pub place : ℕ
  pub before : WellFormed plan bs passed place
  pub fault : Fault bs place passed number

-- no fault: all fields are well-formed, the end field stands behind them, and nothing follows it
pub record WholeSheet (plan : Bool) (bs : List ℕ) : Type 0 where
  pub passed : Passed
  pub place : ℕ
  pub before : WellFormed plan bs passed place
  pub end_whole : FieldWhole bs place passed
  pub end_tag_lem : tag_at bs place ≡ end_tag
  pub nothing_follows : length bs ≡ behind bs place
