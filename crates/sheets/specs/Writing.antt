-- What writing answers, and what the lent buffer then holds, for any set, any allocation and any buffer.
use Rattle.std.specs.Prelude.{ℕ, zero, suc, ◌+◌, ◌≡◌, Bool, true, false, List, ◌++◌, leb, length, drop}
use Rattle.units.specs.Numbers.{accepted, buffer_too_short}
use Rattle.units.specs.Judging.{or_else}
use Rattle.sets.specs.declared.Set.{Set}
use Rattle.plans.specs.Planned.{blank_alloc}
use Rattle.plans.specs.declared.Alloc.{Alloc}
use Rattle.fields.specs.Rows.{laid}
use Rattle.sheets.specs.Layout.{fields_of, fields_length, sheet_of, sheet_length}
use Rattle.sheets.specs.Reading.{then_number, judged_sheet}
use Rattle.sheets.specs.declared.Written.{Written}

-- N (2), then 4, 5, for plans 7; then 14 where the buffer is too short
abbrev pub write_number : Bool → Set → Alloc → ℕ → ℕ
write_number plan t a room =
    then_number (judged_sheet plan t a) (or_else (leb (sheet_length plan t) room) buffer_too_short accepted)

-- refused: nothing is written
abbrev pub refused_writing : ℕ → Written
refused_writing k = record { length = 0; number = k }

unfoldable pub write_answer : ℕ → ℕ → Written
write_answer zero size = record { length = size; number = 0 }
write_answer (suc k) size = refused_writing (suc k)

-- accepted: the sheet stands in the first n bytes, all behind it is as it was; refused: no byte has changed
unfoldable pub buffer_after : ℕ → List ℕ → List ℕ → List ℕ
buffer_after zero sheet out = sheet ++ drop (length sheet) out
buffer_after (suc k) sheet out = out

-- the answer of writing into `out`
abbrev pub written_answer : Bool → Set → Alloc → List ℕ → Written
written_answer plan t a out = write_answer (write_number plan t a (length out)) (sheet_length plan t)

-- what `out` then holds
abbrev pub written_buffer : Bool → Set → Alloc → List ℕ → List ℕ
written_buffer plan t a out = buffer_after (write_number plan t a (length out)) (sheet_of plan t a) out

-- writing: the buffer before and after, and the answer
pub record Wrote (plan : Bool) (t : Set) (a : Alloc) (before after : List ℕ) (r : Written) : Type 0 where
  pub answer : r ≡ written_answer plan t a before
  pub buffer : after ≡ written_buffer plan t a before

-- writing all fields but the end, where they and the end fit: their length, and they stand in the first bytes
pub record WroteFields (plan : Bool) (t : Set) (a : Alloc) (before after : List ℕ) (r : Written) : Type 0 where
  pub answer : r ≡ write_answer (write_number plan t a (length before)) (fields_length plan t)
  pub buffer : after ≡ buffer_after (write_number plan t a (length before)) (fields_of plan t a) before

-- ---- a field of a log, written at a place

-- 14 where these bytes, and so many behind them, do not fit
abbrev pub room_number : ℕ → ℕ → ℕ
room_number end room = or_else (leb end room) buffer_too_short accepted

-- accepted: the bytes stand at the place, all else is as it was; refused: no byte has changed
unfoldable pub laid_after : ℕ → List ℕ → ℕ → List ℕ → List ℕ
laid_after zero out a bytes = laid out a bytes
laid_after (suc k) out a bytes = out

-- writing bytes at a place that leaves room for so many behind them: the number, and what the buffer then holds
pub record PutAt (a : ℕ) (bytes : List ℕ) (more : ℕ) (before after : List ℕ) (number : ℕ) : Type 0 where
  pub answer : number ≡ room_number (a + length bytes + more) (length before)
  pub buffer : after ≡ laid_after (room_number (a + length bytes + more) (length before)) before a bytes

-- writing a request, and writing a plan: the answer, and what the buffer then holds
pub record Writing : Type 0 where
  pub answer : Written
  pub buffer : List ℕ

abbrev pub request_written : Set → List ℕ → Writing
request_written t out =
    record { answer = written_answer false t blank_alloc out; buffer = written_buffer false t blank_alloc out }

abbrev pub plan_written : Set → Alloc → List ℕ → Writing
plan_written t a out = record { answer = written_answer true t a out; buffer = written_buffer true t a out }
