-- A log that is written as a recorder does: begun, one visit or mark after another added, ended. And the entries of a run of the ring model.
use Rattle.std.specs.Prelude.{ℕ, ◌+◌, ◌%◌, ◌^◌, List, [], ◌∷◌, map, reverse, pos}
use Rattle.sets.specs.declared.Set.{Set}
use Rattle.plans.specs.declared.Alloc.{Alloc}
use Rattle.log_records.specs.declared.VisitEntry.{VisitEntry}
use Rattle.log_records.specs.declared.MarkEntry.{MarkEntry}
use Rattle.log_records.specs.declared.Entry.{Entry}
use Rattle.log_records.specs.declared.Entry.TheVariants.{Visit, Mark}
use Rattle.sheets.specs.declared.Written.{Written}
use Rattle.rings.specs.declared.VisitRecord.{VisitRecord}
use Rattle.logs.specs.Writing.{begun, begun_buffer, visit_of, added, added_buffer, added_mark, marked_buffer, ended, ended_buffer}
use Rattle.logs.specs.declared.Recorder.{Recorder}
use Rattle.promises.specs.Run.{Call, Event, a_visit as ofVisit, a_message, a_marking, an_unmarking, noted, events_of}

-- ---- a recording

-- what a recorder is told: a visit's record, or a mark
pub data Told : Type 0 where
  a_visit : VisitRecord → Told
  a_mark : MarkEntry → Told

-- how far it has come: the recorder, and what the lent buffer holds
pub record Recording : Type 0 where
  pub recorder : Recorder
  pub buffer : List ℕ

-- begun on a plan, with the counter that the recorder shows at a clock of the ring
abbrev pub beginning : Set → Alloc → ℕ → ℕ → List ℕ → Recording
beginning t a counter clock out = record { recorder = begun t a counter clock out; buffer = begun_buffer t a out }

-- one visit or mark more, accepted or not
abbrev pub one_more : Recording → Told → Recording
one_more s (a_visit v) =
    record { recorder = added s.recorder v s.buffer; buffer = added_buffer s.recorder v s.buffer }
one_more s (a_mark m) =
    record { recorder = added_mark s.recorder s.buffer; buffer = marked_buffer s.recorder m s.buffer }

-- all that is told in a list, the first one first
unfoldable pub recorded : Recording → List Told → Recording
recorded s [] = s
recorded s (x ∷ xs) = recorded (one_more s x) xs

-- what of it was accepted
unfoldable pub kept_of : Recording → List Told → List Told
kept_of s [] = []
kept_of s (x ∷ xs) = noted (one_more s x).recorder.number x (kept_of (one_more s x) xs)

-- ended: the answer, and what the buffer then holds
abbrev pub end_answer : Recording → Written
end_answer s = ended s.recorder s.buffer

abbrev pub end_buffer : Recording → List ℕ
end_buffer s = ended_buffer s.recorder s.buffer

-- ---- entries

-- the entry that a log has for what was told, by a counter that is this one at that clock
abbrev pub entry_for : ℕ → ℕ → Told → Entry
entry_for counter clock (a_visit v) = Visit (visit_of counter clock v)
entry_for counter clock (a_mark m) = Mark m

-- a visit's record that has the numbers of a visit's entry
abbrev pub record_for : VisitEntry → VisitRecord
record_for v =
    record {
      station = record { 0 = v.station };
      start = record { 0 = v.start };
      trt = record { 0 = 0 };
      limit = record { 0 = v.limit };
      synchronous = record { 0 = v.synchronous };
      asynchronous = record { 0 = v.asynchronous };
      finish = record { 0 = 0 };
      margin = pos 0;
      completed = 0;
    }

-- what to tell a recorder for an entry
abbrev pub told_for : Entry → Told
told_for (Visit v) = a_visit (record_for v)
told_for (Mark m) = a_mark m

-- ---- a run's

-- the entry that says what a visit's record says, its start by a counter that was this one at clock 0
abbrev pub tells : ℕ → VisitRecord → VisitEntry
tells counter v =
    record {
      station = v.station.0;
      start = (counter + v.start.0) % 2 ^ 32;
      limit = v.limit.0;
      synchronous = v.synchronous.0;
      asynchronous = v.asynchronous.0;
    }

-- the entry that says what was told
abbrev pub says : ℕ → Told → Entry
says counter (a_visit v) = Visit (tells counter v)
says counter (a_mark m) = Mark m

-- what a recorder is told of a run's events, the latest first: each visit, each accepted marking as a 1 and each unmarking as a 0, of messages nothing
abbrev pub told_in : List Event → List Told
told_in [] = []
told_in (ofVisit on v ∷ before) = a_visit v ∷ told_in before
told_in (a_message m ∷ before) = told_in before
told_in (a_marking p a ∷ before) = a_mark (record { station = p.0; mark = 1 }) ∷ told_in before
told_in (an_unmarking p ∷ before) = a_mark (record { station = p.0; mark = 0 }) ∷ told_in before

-- the entries of a run's log, the first one first
abbrev pub entries_of : ℕ → Set → Alloc → List Call → List Entry
entries_of counter t a calls = map (says counter) (reverse (told_in (events_of t a calls)))
