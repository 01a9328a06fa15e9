-- What `log` writes: the calls are those of `run`, and each visit, marking and unmarking that the ring accepted goes out as a field of the log. No answer is printed.
use Rattle.std.specs.Prelude.{ℕ, zero, suc, ◌*◌, ◌%◌, ◌≤◌, ◌≡◌, Bool, true, cond, ◌&&◌, Option, None, Some, is_none, List, [], ◌∷◌, length, take}
use Rattle.units.specs.declared.Station.{Station}
use Rattle.sheets.specs.Layout.{fields_of, fields_length}
use Rattle.sheets.specs.Reading.{then_number}
use Rattle.sheets.specs.Writing.{write_number, write_answer, buffer_after}
use Rattle.sheets.specs.declared.ReadPlan.{ReadPlan}
use Rattle.rings.specs.declared.VisitRecord.{VisitRecord}
use Rattle.log_records.specs.declared.MarkEntry.{MarkEntry}
use Rattle.log_records.specs.declared.Entry.{Entry}
use Rattle.log_records.specs.declared.Entry.TheVariants.{Visit as a_visit, Mark as a_mark}
use Rattle.logs.specs.Layout.{entries_bytes}
use Rattle.logs.specs.Writing.{counter_at, visit_of}
use Rattle.logs.specs.declared.Recorder.{Recorder}
use Rattle.text.specs.Text.{PutShort, Printed}
use Rattle.command_run.specs.Bytes.{moved_over, out_over}
use Rattle.command_run.specs.Runs.{run_on, answer_at, unread_at, opened_run, piece_size, piece_of}
use Rattle.command_run.specs.declared.Answer.{Answer}
use Rattle.command_run.specs.declared.Answer.TheVariants.{Nothing, Visit, HandIn, Mark, Unmark, Unread}
use Rattle.command_run.specs.declared.Run.{Run}
use Rattle.command_log.specs.declared.Recording.{Recording}
use Rattle.command_log.specs.declared.Recorded.{Recorded}
use Rattle.command_log.specs.declared.OpenedLog.{OpenedLog}

-- ---- the recorder

-- the counter shows 0 at clock 0, when the ring is opened
abbrev pub record_from : Run → Recording
record_from u = record { run = u; clock = 0; counter = 0; unread = None }

-- ---- what is recorded of an answer

-- what a call leaves that was accepted; a refused one leaves nothing
unfoldable pub if_accepted : {A : Type 0} → ℕ → A → List A
if_accepted zero x = x ∷ []
if_accepted (suc k) x = []

-- the record of a visit: by it the recorder's clock moves on
unfoldable pub visits_in : Answer → List VisitRecord
visits_in Nothing = []
visits_in (Visit a) = if_accepted a.number a.«record»
visits_in (HandIn number) = []
visits_in (Mark p a) = []
visits_in (Unmark p number) = []
visits_in Unread = []

-- the recorder's clock behind a line that has this record, or none
unfoldable pub clock_after : ℕ → List VisitRecord → ℕ
clock_after clock [] = clock
clock_after clock (v ∷ vs) = v.start.0

-- and what its counter shows then: it moves on with the clock
unfoldable pub counter_after : ℕ → ℕ → List VisitRecord → ℕ
counter_after counter clock [] = counter
counter_after counter clock (v ∷ vs) = counter_at counter clock v.start.0

-- the mark of a station: the number of an accepted call's station is below N, so below 128, and fits its byte
abbrev pub mark_of : Station → ℕ → MarkEntry
mark_of p on = record { station = p.0 % 256; mark = on }

-- the entry of a visit, its start by a counter that is this one at that clock; of a marking the station and 1, of an unmarking the station and 0, also where it changed nothing; of no other answer
unfoldable pub entries_by : ℕ → ℕ → Answer → List Entry
entries_by counter clock Nothing = []
entries_by counter clock (Visit a) = if_accepted a.number (a_visit (visit_of counter clock a.«record»))
entries_by counter clock (HandIn number) = []
entries_by counter clock (Mark p a) = if_accepted a.number (a_mark (mark_of p 1))
entries_by counter clock (Unmark p number) = if_accepted number (a_mark (mark_of p 0))
entries_by counter clock Unread = []

-- the first line that cannot be read
unfoldable pub first_unread : Option ℕ → ℕ → Bool → Option ℕ
first_unread before n unread = cond (unread && is_none before) (Some n) before

-- ---- byte after byte, as `run` reads them

-- the record of a visit that ends there
abbrev pub visits_at : Run → ℕ → List VisitRecord
visits_at u b = visits_in (answer_at u b)

-- what is kept behind it: the run as ever, the clock and the counter, and the first line that cannot be read
unfoldable pub record_on : Recording → ℕ → Recording
record_on k b =
    record {
      run = run_on k.run b;
      clock = clock_after k.clock (visits_at k.run b);
      counter = counter_after k.counter k.clock (visits_at k.run b);
      unread = first_unread k.unread k.run.line (unread_at k.run b);
    }

-- what goes out at that byte
unfoldable pub logged_at : Recording → ℕ → List ℕ
logged_at k b = entries_bytes (entries_by k.counter k.clock (answer_at k.run b))

-- the recording behind all the bytes
abbrev pub record_after : Recording → List ℕ → Recording
record_after k text = moved_over record_on k text

-- and all that goes out
abbrev pub logged_over : Recording → List ℕ → List ℕ
logged_over k text = out_over record_on logged_at k text

-- ---- what the functions hand back

-- what a line has to record, one entry or none, was recorded; and by a visit's record, or none, the clock moved on
pub record Records (r : Recorder) (vs : List VisitRecord) (es : List Entry) (before after : List ℕ) (next : Recorder) : Type 0 where
  pub put : PutShort 20 before r.at (entries_bytes es) after next.at
  pub clock : next.clock ≡ clock_after r.clock vs
  pub counter : next.counter ≡ counter_after r.counter r.clock vs

-- the recording over a piece of the text
pub record RecordedPiece (k : Recording) (piece before after : List ℕ) (r : Recorded) : Type 0 where
  pub behind : r.recording ≡ record_after k piece
  pub logged : PutShort (20 * piece_size) before 0 (logged_over k piece) after r.length

-- the recording goes on over a piece of the text, and the fields of its records stand on the page
pub record RecordedOn (k : Recording) (text before after : List ℕ) (r : Recorded) : Type 0 where
  pub behind : r.recording ≡ record_after k (piece_of text before)
  pub logged : Printed (logged_over k (piece_of text before)) before after r.length

-- ---- how a log begins

-- the refusal of reading and of opening; then 14 where the plan's fields and the end do not fit
abbrev pub open_number : ReadPlan → ℕ → ℕ
open_number p room = then_number (opened_run p).number (write_number true p.set p.alloc room)

-- a log was opened: the plan's fields stand in front of the buffer, all behind them as it was; refused, no byte has changed
pub record OpenedOn (p : ReadPlan) (before after : List ℕ) (r : OpenedLog) : Type 0 where
  pub recording : r.recording ≡ record_from (opened_run p).run
  pub number : r.number ≡ open_number p (length before)
  pub size : r.length ≡ (write_answer (open_number p (length before)) (fields_length true p.set)).length
  pub buffer : after ≡ buffer_after (open_number p (length before)) (fields_of true p.set p.alloc) before
  -- they lie inside the buffer; both lines say so, for whoever lends its bytes
  pub fits : r.length ≤ length after
  pub counts : r.length ≡ length (take r.length after)
