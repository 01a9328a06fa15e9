-- What is read off a run: its events, its records and its accepted messages, the latest first.
use Rattle.std.specs.Prelude.{ℕ, zero, suc, ◌+◌, ◌-◌, ◌≡◌, Bool, cond, List, [], ◌∷◌, ◌⊎◌, ◌≢◌, eqb}
use Rattle.std.proofs.Math.Option.{Option, none, some}
use Rattle.sets.specs.declared.Set.{Set}
use Rattle.rings.specs.State.{following}
use Rattle.rings.specs.Timers.{lead}
use Rattle.rings.specs.declared.Message.{Message}
use Rattle.rings.specs.declared.VisitRecord.{VisitRecord}
use Rattle.promises.specs.Run.{Event, a_visit, a_message, a_marking, an_unmarking, records_in}

-- the asynchronous time of the latest n visits; visits that were not yet, those of the silent first rotation among them, count as nothing
unfoldable pub async_of : ℕ → List VisitRecord → ℕ
async_of n [] = 0
async_of zero (v ∷ before) = 0
async_of (suc n) (v ∷ before) = v.asynchronous.0 + async_of n before

-- F − 1: the ticks by which the last frame of a visit may run on past the limit
abbrev pub overrun_of : Set → ℕ
overrun_of t = t.head.frame - 1

-- when the synchronous part of a visit starts: at the visit's start; in the 2002 edition after its asynchronous part
abbrev pub sync_start_of : Set → VisitRecord → ℕ
sync_start_of t v = v.start.0 + lead t v.asynchronous.0

-- the latest of a list that is so, if there is one
unfoldable pub latest : {A : Type 0} → (A → Bool) → List A → Option A
latest is [] = none
latest is (x ∷ before) = cond (is x) (some x) (latest is before)

-- it is a visit of station i
abbrev pub visit_of : ℕ → VisitRecord → Bool
visit_of i v = eqb v.station.0 i

-- the latest visit of station i
abbrev pub latest_of : ℕ → List VisitRecord → Option VisitRecord
latest_of i records = latest (visit_of i) records

-- it is a message for station i
abbrev pub message_for : ℕ → Message → Bool
message_for i m = eqb m.station.0 i

-- the latest message for station i
abbrev pub latest_for : ℕ → List Message → Option Message
latest_for i messages = latest (message_for i) messages

-- the synchronous time that station i sent in these visits
unfoldable pub sent_by : ℕ → List VisitRecord → ℕ
sent_by i [] = 0
sent_by i (v ∷ before) = cond (visit_of i v) v.synchronous.0 0 + sent_by i before

-- the station whose turn it is: station 0 at first, then the one after the latest visit's
unfoldable pub due : ℕ → List VisitRecord → ℕ
due n [] = 0
due n (v ∷ before) = following n v.station.0

-- every visit of the list, taken with the visits before it, is so
abbrev pub Each : (VisitRecord → List VisitRecord → Type 0) → List VisitRecord → Type 0
Each P [] = Unit {0}
Each P (v ∷ before) = P v before × Each P before

-- some visit of the list, taken with the visits before it, is so
abbrev pub Somewhere : (VisitRecord → List VisitRecord → Type 0) → List VisitRecord → Type 0
Somewhere P [] = ⊥
Somewhere P (v ∷ before) = P v before ⊎ Somewhere P before

-- every message of the list is so
abbrev pub EachMessage : (Message → Type 0) → List Message → Type 0
EachMessage P [] = Unit {0}
EachMessage P (m ∷ before) = P m × EachMessage P before

-- every visit among the events, taken with its station's mark and the visits before it, is so
abbrev pub EachVisit : (ℕ → VisitRecord → List VisitRecord → Type 0) → List Event → Type 0
EachVisit P [] = Unit {0}
EachVisit P (a_visit mark v ∷ before) = P mark v (records_in before) × EachVisit P before
EachVisit P (a_message m ∷ before) = EachVisit P before
EachVisit P (a_marking p a ∷ before) = EachVisit P before
EachVisit P (an_unmarking p ∷ before) = EachVisit P before

-- none of the events is a marking of station i
abbrev pub NeverMarked : ℕ → List Event → Type 0
NeverMarked i [] = Unit {0}
NeverMarked i (a_visit mark v ∷ before) = NeverMarked i before
NeverMarked i (a_message m ∷ before) = NeverMarked i before
NeverMarked i (a_marking p a ∷ before) = (p.0 ≢ i) × NeverMarked i before
NeverMarked i (an_unmarking p ∷ before) = NeverMarked i before

-- station i's mark as the events have it: 1 if its latest switching was a marking, else 0
abbrev pub mark_in : ℕ → List Event → ℕ
mark_in i [] = 0
mark_in i (a_visit mark v ∷ before) = mark_in i before
mark_in i (a_message m ∷ before) = mark_in i before
mark_in i (a_marking p a ∷ before) = cond (eqb p.0 i) 1 (mark_in i before)
mark_in i (an_unmarking p ∷ before) = cond (eqb p.0 i) 0 (mark_in i before)

-- every visit is told with the mark that its station has by the events before
abbrev pub MarksTold : List Event → Type 0
MarksTold [] = Unit {0}
MarksTold (a_visit mark v ∷ before) = (mark ≡ mark_in v.station.0 before) × MarksTold before
MarksTold (a_message m ∷ before) = MarksTold before
MarksTold (a_marking p a ∷ before) = MarksTold before
MarksTold (an_unmarking p ∷ before) = MarksTold before
