-- Demand 3 in parts: what every run of calls keeps on the ring that set t and allocation a open or, of FDDI, used to open. Each part is a record by itself; `Valid`, at the end, says which of them a plan promises, by its mode.
use Rattle.std.specs.Prelude.{ℕ, ◌+◌, ◌-◌, ◌*◌, ◌≤◌, ◌<◌, min, ◌≡◌, List, [], ◌++◌, ◌∷◌, ◌⊎◌, ◌≢◌, ◌↔◌, pos, length}
use Rattle.std.proofs.Math.Option.{none, some}
use Rattle.std.proofs.Math.IntN.{sub_ℕ}
use Rattle.units.specs.Numbers.{timely, most_clock, most_stations}
use Rattle.units.specs.Places.{at, sum_below}
use Rattle.units.specs.declared.Station.{Station}
use Rattle.sets.specs.Rules.{tau}
use Rattle.sets.specs.declared.Set.{Set}
use Rattle.plans.specs.Rules.{spare_time}
use Rattle.plans.specs.declared.Alloc.{Alloc}
use Rattle.rings.specs.State.{Unmarked}
use Rattle.rings.specs.Timers.{Fddi, Earlier, silent_trt}
use Rattle.rings.specs.Sound.{Sound}
use Rattle.rings.specs.Steps.{Ask, visited}
use Rattle.rings.specs.HandingIn.{handed_in}
use Rattle.rings.specs.Marking.{marked, unmarked}
use Rattle.rings.specs.declared.Ring.{Ring}
use Rattle.rings.specs.declared.Message.{Message}
use Rattle.rings.specs.declared.MarkAnswer.{MarkAnswer}
use Rattle.rings.specs.declared.VisitRecord.{VisitRecord}
use Rattle.promises.specs.Run.{Call, message, Event, a_visit, a_message, a_marking, an_unmarking, Run, after, run, run_of, ring_of, records_in, records, messages, events_of, records_of, messages_of}
use Rattle.promises.specs.History.{async_of, overrun_of, sync_start_of, latest_of, latest_for, sent_by, due, Each, Somewhere, EachMessage, EachVisit, NeverMarked, mark_in, MarksTold}

-- ---- what each visit keeps: v is its record, `before` are the records of the visits before it, the latest first

-- the station is the one whose turn it is
pub record InTurn (t : Set) (v : VisitRecord) (before : List VisitRecord) : Type 0 where
  pub station : v.station.0 < t.n
  pub turn : v.station.0 ≡ due t.n before

-- S is kept
abbrev pub ShareKept : Alloc → VisitRecord → List VisitRecord → Type 0
ShareKept a v before = v.synchronous.0 ≤ at a.s v.station.0

-- the start is at most `bound` after the start of the station's visit before
abbrev pub Apart : ℕ → VisitRecord → List VisitRecord → Type 0
Apart bound v before = (u : VisitRecord) → latest_of v.station.0 before ≡ some u → v.start.0 ≤ u.start.0 + bound

-- at its first visit: the start is at most `bound` since the silent rotation passed it
abbrev pub FirstWithin : Set → ℕ → VisitRecord → List VisitRecord → Type 0
FirstWithin t bound v before =
    latest_of v.station.0 before ≡ none → silent_trt t v.station.0 + v.start.0 ≤ bound

-- TRT on arrival is the time since the station's last synchronous part began; in the 2003 edition that is when the token was last there
pub record TimerIsGap (t : Set) (v : VisitRecord) (before : List VisitRecord) : Type 0 where
  -- since the start of the station's visit before, in the 2002 edition of that visit's synchronous part
  pub gap : (u : VisitRecord) → latest_of v.station.0 before ≡ some u → v.start.0 ≡ sync_start_of t u + v.trt.0
  -- at the station's first visit it is the time since the silent rotation passed it: the walk from there to station N − 1, then the clock
  pub first : latest_of v.station.0 before ≡ none → v.trt.0 ≡ silent_trt t v.station.0 + v.start.0
  -- and it is at most TTRT, at the first visit too
  pub within : v.trt.0 ≤ t.head.ttrt

-- the limit of a station that is not marked is exactly A* less the asynchronous time of so many visits before, or 0 where that is larger
pub record ExactLimit (t : Set) (a : Alloc) (many mark : ℕ) (v : VisitRecord) (before : List VisitRecord) : Type 0 where
  pub exact : mark ≡ 0 → v.limit.0 ≡ spare_time t (at a.s) - async_of many before
  -- what is sent is at most the limit and F − 1, and nothing where the limit is 0
  pub within : v.asynchronous.0 ≤ v.limit.0 + overrun_of t
  pub shut : v.limit.0 ≡ 0 → v.asynchronous.0 ≡ 0

-- the asynchronous time of N successive visits, this one the latest of them, is at most A* + (F − 1)
abbrev pub WindowKept : Set → Alloc → VisitRecord → List VisitRecord → Type 0
WindowKept t a v before = async_of t.n (v ∷ before) ≤ spare_time t (at a.s) + overrun_of t

-- F is 1: asynchronous traffic may stop at any tick
abbrev pub AnyTick : Set → Type 0
AnyTick t = t.head.frame ≡ 1

-- then limit and window of a station that is not marked are A* together, so that this limit is nowhere held at 0; and no more than the limit is sent
pub record TickLimit (t : Set) (a : Alloc) (many mark : ℕ) (v : VisitRecord) (before : List VisitRecord) : Type 0 where
  pub exact : mark ≡ 0 → v.limit.0 + async_of many before ≡ spare_time t (at a.s)
  pub kept : v.asynchronous.0 ≤ v.limit.0

-- a station that is marked is offered 0 and sends nothing
pub record WalkedThrough (mark : ℕ) (v : VisitRecord) (before : List VisitRecord) : Type 0 where
  pub limit : 0 < mark → v.limit.0 ≡ 0
  pub synchronous : 0 < mark → v.synchronous.0 ≡ 0
  pub asynchronous : 0 < mark → v.asynchronous.0 ≡ 0

-- no message is completed late: where the flag says that one was completed, the margin is not negative
abbrev pub NoneLate : VisitRecord → List VisitRecord → Type 0
NoneLate v before = v.completed ≡ 1 → (margin : ℕ) × (v.margin ≡ pos margin)

-- ---- a message that was handed in, followed

-- the deadline of a message: its arrival + D of its station
abbrev pub due_by : Set → Message → ℕ
due_by t m = m.arrival.0 + at t.d m.station.0

-- a moment lies ahead of the ring's clock
abbrev pub AheadOf : Ring → ℕ → Type 0
AheadOf r moment = r.clock < moment

-- the ring still holds it: what remains and what its station sent since make up its length, and its station was not marked since
pub record StillHeld (m : Message) (r : Ring) (since : List Event) : Type 0 where
  pub held : 0 < at r.rest m.station.0
  pub arrival : at r.arrival m.station.0 ≡ m.arrival.0
  pub parts : at r.rest m.station.0 + sent_by m.station.0 (records_in since) ≡ m.length.0
  pub unmarked : NeverMarked m.station.0 since

-- visit v completed it, `before` being the visits since the handing in and before v: what its station sent in all these is its length, and the record has its finish and its margin
pub record CompletedBy (t : Set) (m : Message) (v : VisitRecord) (before : List VisitRecord) : Type 0 where
  pub station : v.station.0 ≡ m.station.0
  pub flag : v.completed ≡ 1
  pub whole : sent_by m.station.0 (v ∷ before) ≡ m.length.0
  pub finish : v.finish.0 ≡ sync_start_of t v + v.synchronous.0
  pub margin : v.margin ≡ sub_ℕ (due_by t m) v.finish.0

-- the marking of station p with answer a took it back, `before` being what happened since the handing in and before that: its station's first marking since; what remained, which the answer has, and what its station sent make up its length
pub record WithdrawnBy (m : Message) (p : Station) (a : MarkAnswer) (before : List Event) : Type 0 where
  pub station : p.0 ≡ m.station.0
  pub flag : a.withdrawn ≡ 1
  pub arrival : a.arrival.0 ≡ m.arrival.0
  -- something of it was unsent
  pub unsent : 0 < a.rest.0
  pub parts : a.rest.0 + sent_by m.station.0 (records_in before) ≡ m.length.0
  pub first : NeverMarked m.station.0 before

-- some marking among the events did
abbrev pub Withdrawn : Message → List Event → Type 0
Withdrawn m [] = ⊥
Withdrawn m (a_visit mark v ∷ before) = Withdrawn m before
Withdrawn m (a_message o ∷ before) = Withdrawn m before
Withdrawn m (a_marking p a ∷ before) = WithdrawnBy m p a before ⊎ Withdrawn m before
Withdrawn m (an_unmarking p ∷ before) = Withdrawn m before

-- handed in after the run `then`, looked at after the run `now`: it is still held, and the ring is as `Waiting` says; or one of the visits since completed it, and that one's record is as `Finished` says; or it was withdrawn
pub record Followed (t : Set) (m : Message) (Waiting : Ring → Type 0) (Finished : VisitRecord → Type 0) (then now : Run) : Type 0 where
  pub since : List Event
  pub happened : now.events ≡ since ++ a_message m ∷ then.events
  pub either : (StillHeld m now.ring since × Waiting now.ring)
      ⊎ Somewhere (λ v before. CompletedBy t m v before × Finished v) (records_in since)
      ⊎ Withdrawn m since

-- followed to its whole length, whenever that was
abbrev pub FollowedToTheEnd : Set → Message → Run → Run → Type 0
FollowedToTheEnd t m then now = Followed t m (λ r. Unit {0}) (λ v. Unit {0}) then now

-- followed, and in time: while it is held its deadline is ahead of the clock, and it is finished by its deadline
abbrev pub FollowedInTime : Set → Message → Run → Run → Type 0
FollowedInTime t m then now = Followed t m (λ r. AheadOf r (due_by t m)) (λ v. v.finish.0 ≤ due_by t m) then now

-- ---- what a visit finishes, of the message that the ring holds

pub record FinishesInTime (t : Set) (r : Ring) (v : VisitRecord) : Type 0 where
  pub start : v.start.0 ≡ r.clock
  pub finish : v.finish.0 ≡ sync_start_of t v + v.synchronous.0
  pub in_time : v.finish.0 ≤ at r.arrival r.token + at t.d r.token
  pub margin : v.margin ≡ pos (at r.arrival r.token + at t.d r.token - v.finish.0)

-- ---- a message that keeps C and P, has arrived, and is later than its station's last start

pub record Regular (t : Set) (s : Run) (m : Message) : Type 0 where
  -- it is not longer than C
  pub length : (1 ≤ m.length.0) × (m.length.0 ≤ at t.c m.station.0)
  -- it arrives at least P after its station's last accepted one, where there is one
  pub gap : (o : Message)
      → latest_for m.station.0 (messages s) ≡ some o → o.arrival.0 + at t.p m.station.0 ≤ m.arrival.0
  -- the clock has reached its arrival
  pub arrived : m.arrival.0 ≤ s.ring.clock
  -- it arrives later than its station's last start, where there was a visit
  pub later : (u : VisitRecord) → latest_of m.station.0 (records s) ≡ some u → sync_start_of t u < m.arrival.0

-- ---- a message, and the visits of its station, those before its handing in and those after

-- it arrived inside the asynchronous part of the visit, which is the first part in the 2002 edition: behind the start, and not behind the end
abbrev pub Inside : Message → VisitRecord → Type 0
Inside m v = (v.start.0 < m.arrival.0) × (m.arrival.0 ≤ v.start.0 + v.asynchronous.0)

-- of none of them did it
abbrev pub OutsideAll : List VisitRecord → Message → Type 0
OutsideAll records m = Each (λ v before. v.station.0 ≡ m.station.0 → ¬ Inside m v) records

-- ---- the parts

-- the frames asked for have a length from 1 to F
abbrev pub FramesNamed : Set → Ask → Type 0
FramesNamed t ask = (1 ≤ ask.length) × (ask.length ≤ t.head.frame)

-- what every ring keeps
pub record Common (t : Set) (a : Alloc) : Type 0 where
  -- the stations come in turn, from station 0 on
  pub in_turn : (calls : List Call) → Each (InTurn t) (records_of t a calls)
  -- no visit sends more synchronous time than S
  pub share_kept : (calls : List Call) → Each (ShareKept a) (records_of t a calls)
  -- the ring's marks, and those with which the visits are told, are what the markings and unmarkings say
  pub marks : (calls : List Call) (i : ℕ) → i < t.n → at (ring_of t a calls).mark i ≡ mark_in i (events_of t a calls)
  pub marks_told : (calls : List Call) → MarksTold (events_of t a calls)
  -- a station that is marked at a visit is offered 0 and sends nothing
  pub walked_through : (calls : List Call) → EachVisit WalkedThrough (events_of t a calls)
  -- no message is held under a mark
  pub clear : (calls : List Call) (i : ℕ) → 0 < at (ring_of t a calls).rest i → Unmarked (ring_of t a calls) i
  -- a message that is held has arrived: its arrival is not later than the clock
  pub arrived : (calls : List Call) (i : ℕ)
      → 0 < at (ring_of t a calls).rest i → at (ring_of t a calls).arrival i ≤ (ring_of t a calls).clock
  -- so a visit serves whatever its station holds: it sends the smaller of S and what remains
  pub serves : (calls : List Call) (ask : Ask)
      → (visited (ring_of t a calls) ask).answer.number ≡ 0
      → (visited (ring_of t a calls) ask).answer.«record».synchronous.0
      ≡ min (at a.s (ring_of t a calls).token) (at (ring_of t a calls).rest (ring_of t a calls).token)
  -- never 15 for a message whose arrival the clock has reached
  pub no_15 : (calls : List Call) (m : Message)
      → m.arrival.0 ≤ (ring_of t a calls).clock → (handed_in (ring_of t a calls) m).number ≢ 15
  -- every accepted message, followed from its handing in, is held with what is left of it, or was completed with its whole length, or was withdrawn
  pub followed : (calls : List Call) (m : Message)
      → (handed_in (ring_of t a calls) m).number ≡ 0 → (later : List Call)
      → FollowedToTheEnd t m (run_of t a calls) (run (after (run_of t a calls) (message m)) later)
  -- no ring reached is unsound, whatever the number of calls
  pub sound : (calls : List Call) → Sound (ring_of t a calls)
  -- so 8 is never given
  pub no_visit_8 : (calls : List Call) (ask : Ask) → (visited (ring_of t a calls) ask).answer.number ≢ 8
  pub no_message_8 : (calls : List Call) (m : Message) → (handed_in (ring_of t a calls) m).number ≢ 8
  pub no_mark_8 : (calls : List Call) (p : Station) → (marked (ring_of t a calls) p).answer.number ≢ 8
  pub no_unmark_8 : (calls : List Call) (p : Station) → (unmarked (ring_of t a calls) p).number ≢ 8
  -- a visit is accepted exactly if the length of its frames is 1 to F and the clock is not above 1,000,000,000,000
  pub goes : (calls : List Call) (ask : Ask)
      → ((visited (ring_of t a calls) ask).answer.number ≡ 0)
      ↔ (FramesNamed t ask × ((ring_of t a calls).clock ≤ most_clock))
  -- the visit count is the number of accepted visits, and the clock ends them long before 2^62: each rotation takes a tick at least
  pub counted : (calls : List Call) → (ring_of t a calls).visits ≡ length (records_of t a calls)
  pub bounded : (calls : List Call) → length (records_of t a calls) ≤ most_stations * (most_clock + 1)
  -- the ring's last start of a station is that of its latest record, and the ring says rightly that there was none
  pub last_start : (calls : List Call) (i : ℕ)
      → i < t.n → (u : VisitRecord) → latest_of i (records_of t a calls) ≡ some u
      → (i < (ring_of t a calls).visits) × (at (ring_of t a calls).last i ≡ sync_start_of t u)
  pub no_start : (calls : List Call) (i : ℕ)
      → i < t.n → latest_of i (records_of t a calls) ≡ none → (ring_of t a calls).visits ≤ i
  -- the ring's last accepted arrival of a station is that of its latest accepted message, and the ring says rightly that there was none
  pub last_message : (calls : List Call) (i : ℕ)
      → i < t.n → (m : Message) → latest_for i (messages_of t a calls) ≡ some m
      → (at (ring_of t a calls).had i ≢ 0) × (at (ring_of t a calls).arrival i ≡ m.arrival.0)
  pub no_message : (calls : List Call) (i : ℕ)
      → i < t.n → latest_for i (messages_of t a calls) ≡ none → at (ring_of t a calls).had i ≡ 0

-- the token is never late, and late here means later than `bound`: arrivals at a station are at most `bound` apart
pub record NeverLate (t : Set) (a : Alloc) (bound : ℕ) : Type 0 where
  -- successive visits
  pub apart : (calls : List Call) → Each (Apart bound) (records_of t a calls)
  -- and the time since the latest one, so also the arrival at which no visit may start any more
  pub since : (calls : List Call) (i : ℕ)
      → i < t.n → (u : VisitRecord) → latest_of i (records_of t a calls) ≡ some u
      → (ring_of t a calls).clock ≤ u.start.0 + bound

-- the limit of a station that is not marked is exactly A* less the asynchronous time of so many visits before, held at 0, the silent rotation counting as nothing
pub record ExactLimits (t : Set) (a : Alloc) (many : ℕ) : Type 0 where
  pub limits : (calls : List Call) → EachVisit (ExactLimit t a many) (events_of t a calls)
  -- A* is a true difference: with τ, F − 1 and the sum of S it makes up TTRT
  pub spare : spare_time t (at a.s) + tau t + overrun_of t + sum_below t.n (at a.s) ≡ t.head.ttrt
  -- with F 1 that limit is a true difference too
  pub ticks : AnyTick t → (calls : List Call) → EachVisit (TickLimit t a many) (events_of t a calls)

-- deadlines are kept
pub record DeadlinesKept (t : Set) (a : Alloc) : Type 0 where
  -- every accepted message, followed from its handing in, is held with its deadline ahead of the clock, or was completed by its deadline, or was withdrawn
  pub followed : (calls : List Call) (m : Message)
      → (handed_in (ring_of t a calls) m).number ≡ 0 → (later : List Call)
      → FollowedInTime t m (run_of t a calls) (run (after (run_of t a calls) (message m)) later)
  -- while a station holds a message, that message's deadline is ahead of the clock
  pub ahead : (calls : List Call) (i : ℕ)
      → i < t.n
      → 0 < at (ring_of t a calls).rest i → AheadOf (ring_of t a calls) (at (ring_of t a calls).arrival i + at t.d i)
  -- a visit that completes a message finishes it by its deadline, and the margin is what is left
  pub finishes : (calls : List Call) (ask : Ask)
      → (visited (ring_of t a calls) ask).answer.«record».completed ≡ 1
      → FinishesInTime t (ring_of t a calls) (visited (ring_of t a calls) ask).answer.«record»
  -- so no record of a run has a negative margin
  pub none_late : (calls : List Call) → Each NoneLate (records_of t a calls)
  -- never 11 for a message to a station that is not marked, that keeps C and P, handed in when the clock has reached its arrival and it is later than its station's last start
  pub no_11 : (calls : List Call) (m : Message)
      → Unmarked (ring_of t a calls) m.station.0 → Regular t (run_of t a calls) m
      → (handed_in (ring_of t a calls) m).number ≢ 11
  -- it is taken, where its station is one of the ring's and its arrival in range
  pub taken : (calls : List Call) (m : Message)
      → m.station.0 < t.n → m.arrival.0 ≤ most_clock → Unmarked (ring_of t a calls) m.station.0
      → Regular t (run_of t a calls) m → (handed_in (ring_of t a calls) m).number ≡ 0

-- ---- what "valid" means, by the mode

-- mode 1
abbrev pub Timely : Set → Type 0
Timely t = t.head.mode ≡ timely

-- the sum of S
abbrev pub all_shares : Set → Alloc → ℕ
all_shares t a = sum_below t.n (at a.s)

-- what a timely-token ring keeps, in both editions; its limit looks back on so many visits
pub record TimelyKept (t : Set) (a : Alloc) (many : ℕ) : Type 0 where
  -- the token is back within TTRT, and TRT says when the station's last synchronous part began
  pub never_late : NeverLate t a t.head.ttrt
  pub timers : (calls : List Call) → Each (TimerIsGap t) (records_of t a calls)
  -- the limit of a station that is not marked is exact
  pub limits : ExactLimits t a many
  -- any N successive visits send at most A* + (F − 1) asynchronously
  pub windows : (calls : List Call) → Each (WindowKept t a) (records_of t a calls)
  -- deadlines are kept
  pub deadlines : DeadlinesKept t a

-- what an FDDI ring keeps: the token may come later than TTRT, by the sum of S and F − 1 at most; no limit and no deadline is promised
pub record FddiKept (t : Set) (a : Alloc) : Type 0 where
  -- the token is back within TTRT + the sum of S + τ + (F − 1)
  pub never_late : NeverLate t a (t.head.ttrt + all_shares t a + tau t + overrun_of t)
  -- and even within TTRT + the sum of S + (F − 1)
  pub sooner : NeverLate t a (t.head.ttrt + all_shares t a + overrun_of t)
  -- at a station's first visit too, since the silent rotation passed it
  pub first : (calls : List Call)
      → Each (FirstWithin t (t.head.ttrt + all_shares t a + overrun_of t)) (records_of t a calls)
  -- and as long as a station has had no visit
  pub first_since : (calls : List Call) (i : ℕ)
      → i < t.n → latest_of i (records_of t a calls) ≡ none
      → silent_trt t i + (ring_of t a calls).clock ≤ t.head.ttrt + all_shares t a + overrun_of t
  -- no late count is above 1, where 3 would be sound
  pub lates : (calls : List Call) (i : ℕ) → i < t.n → at (ring_of t a calls).late i ≤ 1

pub record Valid (t : Set) (a : Alloc) : Type 0 where
  pub common : Common t a
  -- the limit of a station that is not marked is A* less the asynchronous time of the N visits before
  pub timely : Timely t → TimelyKept t a t.n
  pub fddi : Fddi t → FddiKept t a
  -- the 2002 edition: it is A* less that of the N − 1 visits before, since the station's own last asynchronous part is not in its timer
  pub earlier : Earlier t → TimelyKept t a (t.n - 1)
  -- and no message that is ever taken arrived inside its station's own asynchronous part
  pub own_part : Earlier t → (calls : List Call) → EachMessage (OutsideAll (records_of t a calls)) (messages_of t a calls)
