-- A log is written as a recorder does: it is begun with the plan's fields, each visit and each mark is added, and it is ended. What each of these answers, and what the lent buffer then holds.
use Rattle.std.specs.Prelude.{◌≡◌, ℕ, zero, suc, ◌+◌, ◌-◌, ◌%◌, ◌^◌, true, List, length}
use Rattle.sets.specs.declared.Set.{Set}
use Rattle.plans.specs.declared.Alloc.{Alloc}
use Rattle.log_records.specs.Visit.{visit_length, visit_bytes}
use Rattle.log_records.specs.Mark.{mark_length, mark_bytes}
use Rattle.log_records.specs.declared.VisitEntry.{VisitEntry}
use Rattle.log_records.specs.declared.MarkEntry.{MarkEntry}
use Rattle.sheets.specs.Layout.{fields_of, fields_length, end_bytes}
use Rattle.sheets.specs.Writing.{write_number, write_answer, buffer_after, room_number, laid_after}
use Rattle.sheets.specs.declared.Written.{Written}
use Rattle.rings.specs.declared.VisitRecord.{VisitRecord}
use Rattle.logs.specs.declared.Recorder.{Recorder}

-- ---- the recorder's counter

-- the low 32 bits of a number
abbrev pub low : ℕ → ℕ
low x = x % 2 ^ 32

-- what a 32-bit counter rises by while a clock goes from one number to another
unfoldable pub rise : ℕ → ℕ → ℕ
rise before now = (low now + (2 ^ 32 - low before)) % 2 ^ 32

-- the counter at a later clock, if it is this one at that clock: it runs past its top to 0
unfoldable pub counter_at : ℕ → ℕ → ℕ → ℕ
counter_at counter clock later = (counter + rise clock later) % 2 ^ 32

-- ---- beginning

-- refused: a recorder of zeros but for its number
unfoldable pub begun_with : ℕ → ℕ → ℕ → ℕ → Recorder
begun_with zero at clock counter = record { at = at; clock = clock; counter = counter; number = 0 }
begun_with (suc k) at clock counter = record { at = 0; clock = 0; counter = 0; number = suc k }

-- the judgement's number, then 14 where the plan's fields and the end do not fit
abbrev pub begin_number : Set → Alloc → ℕ → ℕ
begin_number t a room = write_number true t a room

abbrev pub begun : Set → Alloc → ℕ → ℕ → List ℕ → Recorder
begun t a counter clock out = begun_with (begin_number t a (length out)) (fields_length true t) clock counter

abbrev pub begun_buffer : Set → Alloc → List ℕ → List ℕ
begun_buffer t a out = buffer_after (begin_number t a (length out)) (fields_of true t a) out

-- beginning: the buffer before and after, and the recorder
pub record Began (t : Set) (a : Alloc) (counter clock : ℕ) (before after : List ℕ) (r : Recorder) : Type 0 where
  pub recorder : r ≡ begun t a counter clock before
  pub buffer : after ≡ begun_buffer t a before

-- ---- adding a visit

-- the visit that a log has for a visit's record, by a counter that is this one at that clock: the station, the counter when the visit started, its limit and both amounts
abbrev pub visit_of : ℕ → ℕ → VisitRecord → VisitEntry
visit_of counter clock v =
    record {
      station = v.station.0 % 256;
      start = counter_at counter clock v.start.0;
      limit = low v.limit.0;
      synchronous = low v.synchronous.0;
      asynchronous = low v.asynchronous.0;
    }

-- the same for a recorder
abbrev pub visit_by : Recorder → VisitRecord → VisitEntry
visit_by r v = visit_of r.counter r.clock v

-- 14 where a field of so many bytes and the end would not fit
abbrev pub add_number : Recorder → ℕ → ℕ → ℕ
add_number r size room = room_number (r.at + size + 3) room

-- refused: the recorder as it was, with the number
abbrev pub not_added : Recorder → ℕ → Recorder
not_added r number = record { at = r.at; clock = r.clock; counter = r.counter; number = number }

unfoldable pub added_with : ℕ → Recorder → VisitRecord → Recorder
added_with zero r v =
    record {
      at = r.at + visit_length;
      clock = v.start.0;
      counter = counter_at r.counter r.clock v.start.0;
      number = 0;
    }
added_with (suc k) r v = not_added r (suc k)

abbrev pub added : Recorder → VisitRecord → List ℕ → Recorder
added r v out = added_with (add_number r visit_length (length out)) r v

abbrev pub added_buffer : Recorder → VisitRecord → List ℕ → List ℕ
added_buffer r v out = laid_after (add_number r visit_length (length out)) out r.at (visit_bytes (visit_by r v))

-- adding: the buffer before and after, and the recorder
pub record Added (r : Recorder) (v : VisitRecord) (before after : List ℕ) (next : Recorder) : Type 0 where
  pub recorder : next ≡ added r v before
  pub buffer : after ≡ added_buffer r v before

-- ---- adding a mark

-- the counter stays: a mark has no start
unfoldable pub marked_with : ℕ → Recorder → Recorder
marked_with zero r = record { at = r.at + mark_length; clock = r.clock; counter = r.counter; number = 0 }
marked_with (suc k) r = not_added r (suc k)

abbrev pub added_mark : Recorder → List ℕ → Recorder
added_mark r out = marked_with (add_number r mark_length (length out)) r

abbrev pub marked_buffer : Recorder → MarkEntry → List ℕ → List ℕ
marked_buffer r m out = laid_after (add_number r mark_length (length out)) out r.at (mark_bytes m)

-- adding: the buffer before and after, and the recorder
pub record AddedMark (r : Recorder) (m : MarkEntry) (before after : List ℕ) (next : Recorder) : Type 0 where
  pub recorder : next ≡ added_mark r before
  pub buffer : after ≡ marked_buffer r m before

-- ---- ending

-- 14 where the end does not fit
abbrev pub end_number : Recorder → ℕ → ℕ
end_number r room = room_number (r.at + 3) room

-- the length of the log
abbrev pub ended : Recorder → List ℕ → Written
ended r out = write_answer (end_number r (length out)) (r.at + 3)

abbrev pub ended_buffer : Recorder → List ℕ → List ℕ
ended_buffer r out = laid_after (end_number r (length out)) out r.at end_bytes

-- ending: the buffer before and after, and the answer
pub record EndedLog (r : Recorder) (before after : List ℕ) (answer : Written) : Type 0 where
  pub answered : answer ≡ ended r before
  pub buffer : after ≡ ended_buffer r before
