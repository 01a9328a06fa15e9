-- A run: a list of calls on a ring that a plan opens or, an FDDI plan, used to open, one after another, each answered as the code answers it.
use Rattle.std.specs.Prelude.{ℕ, zero, suc, List, [], ◌∷◌}
use Rattle.units.specs.Places.{at}
use Rattle.units.specs.declared.Station.{Station}
use Rattle.sets.specs.declared.Set.{Set}
use Rattle.plans.specs.declared.Alloc.{Alloc}
use Rattle.rings.specs.Opening.{opened_ring}
use Rattle.rings.specs.Steps.{Ask, visited}
use Rattle.rings.specs.HandingIn.{handed_in}
use Rattle.rings.specs.Marking.{marked, unmarked}
use Rattle.rings.specs.declared.Ring.{Ring}
use Rattle.rings.specs.declared.Message.{Message}
use Rattle.rings.specs.declared.MarkAnswer.{MarkAnswer}
use Rattle.rings.specs.declared.VisitRecord.{VisitRecord}

-- a call: a visit with what is asked for, the handing in of a message, a station switched through, or one switched in again
pub data Call : Type 0 where
  visit : Ask → Call
  message : Message → Call
  mark : Station → Call
  unmark : Station → Call

-- what an accepted call tells: a visit's record with the mark of its station, the message, the marking's answer, or the station that is in again
pub data Event : Type 0 where
  a_visit : ℕ → VisitRecord → Event
  a_message : Message → Event
  a_marking : Station → MarkAnswer → Event
  an_unmarking : Station → Event

-- how far a run has come: the ring, and what happened, the latest first
pub record Run : Type 0 where
  pub ring : Ring
  pub events : List Event

-- what an accepted call tells is kept, what a refused one tells is not
unfoldable pub noted : {A : Type 0} → ℕ → A → List A → List A
noted zero x before = x ∷ before
noted (suc k) x before = before

-- one call more; what the ring is then is the answer's own ring, so a refused call changes nothing
unfoldable pub after : Run → Call → Run
after s (visit ask) =
    record {
      ring = (visited s.ring ask).ring;
      events = noted (visited s.ring ask).answer.number
          (a_visit (at s.ring.mark s.ring.token) (visited s.ring ask).answer.«record») s.events;
    }
after s (message m) =
    record {
      ring = (handed_in s.ring m).ring;
      events = noted (handed_in s.ring m).number (a_message m) s.events;
    }
after s (mark p) =
    record {
      ring = (marked s.ring p).ring;
      events = noted (marked s.ring p).answer.number (a_marking p (marked s.ring p).answer) s.events;
    }
after s (unmark p) =
    record {
      ring = (unmarked s.ring p).ring;
      events = noted (unmarked s.ring p).number (an_unmarking p) s.events;
    }

-- the calls of a list, the first one first
unfoldable pub run : Run → List Call → Run
run s [] = s
run s (c ∷ cs) = run (after s c) cs

-- the state that opening a set and an allocation gives, or, with FDDI, used to give: nothing has happened yet
abbrev pub opened : Set → Alloc → Run
opened t a = record { ring = opened_ring t a; events = [] }

-- these calls on the opened ring
abbrev pub run_of : Set → Alloc → List Call → Run
run_of t a calls = run (opened t a) calls

-- the ring after them
abbrev pub ring_of : Set → Alloc → List Call → Ring
ring_of t a calls = (run_of t a calls).ring

-- ---- what is read off the events

-- the records of the visits, the latest first
abbrev pub records_in : List Event → List VisitRecord
records_in [] = []
records_in (a_visit on v ∷ before) = v ∷ records_in before
records_in (a_message m ∷ before) = records_in before
records_in (a_marking p a ∷ before) = records_in before
records_in (an_unmarking p ∷ before) = records_in before

-- the accepted messages, the latest first
abbrev pub messages_in : List Event → List Message
messages_in [] = []
messages_in (a_visit on v ∷ before) = messages_in before
messages_in (a_message m ∷ before) = m ∷ messages_in before
messages_in (a_marking p a ∷ before) = messages_in before
messages_in (an_unmarking p ∷ before) = messages_in before

abbrev pub records : Run → List VisitRecord
records s = records_in s.events

abbrev pub messages : Run → List Message
messages s = messages_in s.events

-- what happened among these calls, the latest first
abbrev pub events_of : Set → Alloc → List Call → List Event
events_of t a calls = (run_of t a calls).events

-- the records of the accepted visits among them
abbrev pub records_of : Set → Alloc → List Call → List VisitRecord
records_of t a calls = records (run_of t a calls)

-- the accepted messages among them
abbrev pub messages_of : Set → Alloc → List Call → List Message
messages_of t a calls = messages (run_of t a calls)
