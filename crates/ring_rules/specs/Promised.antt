-- What is promised of opening, visits, handing in and stations switched through beside the contracts; `proofs/Promised.antt` proves it. What every run of calls keeps is promised in `promises`.
use Rattle.std.specs.Prelude.{ℕ, suc, ◌+◌, ◌-◌, ◌*◌, ◌≤◌, ◌<◌, min, ◌≡◌, true, List, ◌↔◌, ◌⊎◌, ◌≢◌, pos, negsuc, length}
use Rattle.std.proofs.Math.IntN.{sub_ℕ}
use Rattle.units.specs.Numbers.{most_clock}
use Rattle.units.specs.Small.{rounded_up}
use Rattle.units.specs.Places.{at, sum_below, sum_from}
use Rattle.units.specs.declared.Station.{Station}
use Rattle.sets.specs.Rules.{CountAllowed, WalkTimeAllowed, SameSet}
use Rattle.sets.specs.declared.Set.{Set}
use Rattle.plans.specs.Rules.{Retired, InRange, KeepsRules}
use Rattle.plans.specs.Planned.{judged_plan}
use Rattle.plans.specs.declared.Alloc.{Alloc}
use Rattle.fddi_timer_rules.specs.Timers.{ticks, started_at, offered, visited as tokenAt}
use Rattle.rings.specs.State.{count, ttrt, overrun, share, unused_at, Marked, Unmarked, Shaped, timers_of, blank_ring, with_timers, with_messages}
use Rattle.rings.specs.Timers.{Fddi, Earlier, lead, timer_of, limit, TimersSound}
use Rattle.rings.specs.Frames.{frames_sent}
use Rattle.rings.specs.Opening.{opened_ring, opening}
use Rattle.rings.specs.Sound.{Sound, is_sound}
use Rattle.rings.specs.Steps.{Ask, LengthNamed, most_sent, blank_record, visited}
use Rattle.rings.specs.HandingIn.{Known, LengthAllowed, Free, Arrived, ArrivalAllowed, Takes, handed_in}
use Rattle.rings.specs.Marking.{switched_through, switched_in, marked, unmarked}
use Rattle.rings.specs.declared.Ring.{Ring}
use Rattle.rings.specs.declared.Message.{Message}
use Rattle.rings.specs.declared.MarkAnswer.{MarkAnswer}
use Rattle.rings.specs.declared.VisitRecord.{VisitRecord}

-- the list at all places but i is as it was
abbrev pub SameBut : ℕ → List ℕ → List ℕ → Type 0
SameBut i xs ys = (j : ℕ) → j ≢ i → at xs j ≡ at ys j

-- ---- opening

-- the ring of a set and an allocation when the silent first rotation has ended
pub record Fresh (t : Set) (a : Alloc) (r : Ring) : Type 0 where
  pub set : r.set ≡ t
  pub alloc : r.alloc ≡ a
  pub clock : r.clock ≡ 0
  pub token : r.token ≡ 0
  -- timely-token, TRT: the sum of w from the station to station N − 1
  pub trts : ¬ Fddi t → (i : ℕ) → i < t.n → at r.trt i ≡ sum_from i t.n (at t.w)
  pub lates : ¬ Fddi t → (i : ℕ) → at r.late i ≡ 0
  -- FDDI: the timer starts there, with count 0; one that starts at TTRT becomes 0 with count 1
  pub timers : Fddi t
      → (i : ℕ) → i < t.n → timer_of (timers_of r) i ≡ started_at t.head.ttrt (sum_from i t.n (at t.w))
  pub sents : (i : ℕ) → at r.sent i ≡ 0
  -- u: the sum of S
  pub unused : r.unused ≡ sum_below t.n (at a.s)
  -- no message is held, and none was ever accepted
  pub rests : (i : ℕ) → at r.rest i ≡ 0
  pub had : (i : ℕ) → at r.had i ≡ 0
  pub arrivals : (i : ℕ) → at r.arrival i ≡ 0
  -- no station is marked
  pub marks : (i : ℕ) → Unmarked r i
  -- no station has been visited
  pub lasts : (i : ℕ) → at r.last i ≡ 0
  pub visits : r.visits ≡ 0
  pub shaped : Shaped r

-- ---- a visit

-- what of the asynchronous part came before the synchronous part: nothing, or in the 2002 edition all of it (`lead_none`, `lead_all` below)
abbrev pub ahead : Ring → VisitRecord → ℕ
ahead r v = lead r.set v.asynchronous.0

-- when the synchronous part started
abbrev pub begins : Ring → VisitRecord → ℕ
begins r v = r.clock + ahead r v

-- the two amounts, as the steps have them
pub record Amounts (r : Ring) (ask : Ask) (v : VisitRecord) : Type 0 where
  -- step 1, timely-token: the larger of TTRT − (F − 1) − u − TRT and 0
  pub limit : Unmarked r r.token
      → ¬ Fddi r.set → v.limit.0 ≡ ttrt r - overrun r - r.unused - at r.trt r.token
  -- FDDI: no asynchronous time where the late count is above 0, else TTRT less the timer
  pub limit_late : Unmarked r r.token → Fddi r.set → 0 < at r.late r.token → v.limit.0 ≡ 0
  pub limit_early : Unmarked r r.token
      → Fddi r.set → at r.late r.token ≡ 0 → v.limit.0 ≡ ttrt r - at r.trt r.token
  -- step 3: a held message whose arrival is at or before the start of the synchronous part: the smaller of S and what remains
  pub served : Unmarked r r.token
      → 0 < at r.rest r.token → at r.arrival r.token ≤ begins r v
      → v.synchronous.0 ≡ min (share r r.token) (at r.rest r.token)
  -- a message that arrives after that start is not served
  pub early : begins r v < at r.arrival r.token → v.synchronous.0 ≡ 0
  -- no message, nothing sent
  pub none : at r.rest r.token ≡ 0 → v.synchronous.0 ≡ 0
  -- a marked station is offered 0 and sends nothing of either kind, whatever it holds and whatever is asked for
  pub marked_limit : Marked r r.token → v.limit.0 ≡ 0
  pub marked_sync : Marked r r.token → v.synchronous.0 ≡ 0
  pub marked_async : Marked r r.token → v.asynchronous.0 ≡ 0
  -- step 4: frame after frame while the time used is below the limit, each to its end
  pub frames : v.asynchronous.0 ≡ frames_sent v.limit.0 ask * ask.length
  -- so many are sent: the smaller of those asked for and limit / length rounded up
  pub counted : frames_sent v.limit.0 ask ≡ min ask.frames (rounded_up v.limit.0 ask.length)
  -- the last one runs on past the limit by at most F − 1; where nothing is offered, nothing is sent
  pub within : v.asynchronous.0 ≤ v.limit.0 + overrun r
  pub shut : v.limit.0 ≡ 0 → v.asynchronous.0 ≡ 0
  -- frames of one tick: the smaller of the limit and the ticks asked for
  pub ticks : ask.length ≡ 1 → v.asynchronous.0 ≡ min v.limit.0 ask.frames

-- what the clock and every timer rise by: sent synchronous + sent asynchronous + w
abbrev pub passes : Ring → VisitRecord → ℕ
passes r v = v.synchronous.0 + v.asynchronous.0 + at r.set.w r.token

-- the timers of a timely-token ring after the visit
pub record TimelyMoved (r next : Ring) (v : VisitRecord) : Type 0 where
  -- steps 2 and 3: u falls by S − s of before and rises by S − s of now: it has lost what s has gained
  pub unused : next.unused + v.synchronous.0 ≡ r.unused + at r.sent r.token
  -- step 5: every TRT rises with the clock, this station's from 0 at the start of its synchronous part: what came before that is not in it
  pub trt_here : at next.trt r.token + ahead r v ≡ passes r v
  pub trt_there : (i : ℕ) → i < count r → i ≢ r.token → at next.trt i ≡ at r.trt i + passes r v
  -- late counts are left alone
  pub late : next.late ≡ r.late

-- the timers of an FDDI ring after the visit: the token comes to its station, and then the ticks pass at every station
pub record FddiMoved (r next : Ring) (v : VisitRecord) : Type 0 where
  pub timer_here : timer_of (timers_of next) r.token
      ≡ ticks (ttrt r) (passes r v) (tokenAt (timer_of (timers_of r) r.token))
  pub timer_there : (i : ℕ)
      → i < count r → i ≢ r.token → timer_of (timers_of next) i ≡ ticks (ttrt r) (passes r v) (timer_of (timers_of r) i)
  -- u is left alone
  pub unused : next.unused ≡ r.unused

-- the ring after the visit that the record tells of
pub record Moved (r next : Ring) (v : VisitRecord) : Type 0 where
  -- the timers, by the mode
  pub timely : ¬ Fddi r.set → TimelyMoved r next v
  pub fddi : Fddi r.set → FddiMoved r next v
  -- step 3: s is what was sent, and it comes off the remainder
  pub sent : at next.sent r.token ≡ v.synchronous.0
  pub rest : at next.rest r.token + v.synchronous.0 ≡ at r.rest r.token
  -- step 5: the clock rises
  pub clock : next.clock ≡ r.clock + passes r v
  -- the token moves on, after N − 1 to 0; the visit is counted, and the start of its synchronous part kept
  pub on : r.token + 1 < count r → next.token ≡ r.token + 1
  pub round : r.token + 1 ≡ count r → next.token ≡ 0
  pub visits : next.visits ≡ r.visits + 1
  pub last : at next.last r.token ≡ begins r v
  -- nothing else changes
  pub set : next.set ≡ r.set
  pub alloc : next.alloc ≡ r.alloc
  pub arrival : next.arrival ≡ r.arrival
  pub had : next.had ≡ r.had
  pub mark : next.mark ≡ r.mark
  pub sents : SameBut r.token next.sent r.sent
  pub rests : SameBut r.token next.rest r.rest
  pub lasts : SameBut r.token next.last r.last
  pub shaped : Shaped next

-- a message was completed: its finish is the start of the synchronous part + s, its margin the deadline less the finish
pub record Completed (r : Ring) (v : VisitRecord) : Type 0 where
  pub flag : v.completed ≡ 1
  pub finish : v.finish.0 ≡ begins r v + v.synchronous.0
  pub margin : v.margin ≡ sub_ℕ (at r.arrival r.token + at r.set.d r.token) v.finish.0

-- none was completed: finish and margin are 0, and the flag says so
pub record NoneCompleted (v : VisitRecord) : Type 0 where
  pub flag : v.completed ≡ 0
  pub finish : v.finish.0 ≡ 0
  pub margin : v.margin ≡ pos 0

-- an accepted visit: the record, and what the ring is then
pub record Done (r : Ring) (ask : Ask) (next : Ring) (v : VisitRecord) : Type 0 where
  pub station : v.station.0 ≡ r.token
  pub start : v.start.0 ≡ r.clock
  pub trt : v.trt.0 ≡ at r.trt r.token
  pub amounts : Amounts r ask v
  pub moved : Moved r next v
  -- a message was held and nothing of it remains: it is completed, and no longer held
  pub completed : 0 < at r.rest r.token → at next.rest r.token ≡ 0 → Completed r v
  -- else none is
  pub left : (at r.rest r.token ≡ 0) ⊎ (0 < at next.rest r.token) → NoneCompleted v

-- with F 1 and frames of one tick the visit is the one of before frames
pub record UncutVisit (r : Ring) (ask : Ask) : Type 0 where
  -- it is never refused for its length
  pub not_ten : (visited r ask).answer.number ≢ 10
  -- timely-token: the limit is the larger of TTRT − u − TRT and 0
  pub limit : (visited r ask).answer.number ≡ 0
      → Unmarked r r.token → ¬ Fddi r.set
      → (visited r ask).answer.«record».limit.0 ≡ ttrt r - r.unused - at r.trt r.token
  -- and the smaller of the limit and the ticks asked for is sent
  pub sent : (visited r ask).answer.number ≡ 0
      → (visited r ask).answer.«record».asynchronous.0 ≡ min (visited r ask).answer.«record».limit.0 ask.frames

-- ---- calls that are no visits

-- what such a call leaves alone: the plan, the timers, the token, the clock, the starts and the count of the visits
pub record SameTiming (r next : Ring) : Type 0 where
  pub set : next.set ≡ r.set
  pub alloc : next.alloc ≡ r.alloc
  pub trt : next.trt ≡ r.trt
  pub late : next.late ≡ r.late
  pub sent : next.sent ≡ r.sent
  pub last : next.last ≡ r.last
  pub clock : next.clock ≡ r.clock
  pub visits : next.visits ≡ r.visits
  pub token : next.token ≡ r.token
  pub unused : next.unused ≡ r.unused

-- the message is held with its whole length remaining and with its arrival, which is then that station's last accepted one; nothing else in the ring changes
pub record Held (r : Ring) (m : Message) (next : Ring) : Type 0 where
  pub rest : at next.rest m.station.0 ≡ m.length.0
  pub arrival : at next.arrival m.station.0 ≡ m.arrival.0
  pub had : at next.had m.station.0 ≡ 1
  pub rests : SameBut m.station.0 next.rest r.rest
  pub arrivals : SameBut m.station.0 next.arrival r.arrival
  pub hads : SameBut m.station.0 next.had r.had
  pub mark : next.mark ≡ r.mark
  pub timing : SameTiming r next
  pub shaped : Shaped next

-- station i is switched through: its mark is set and nothing remains of its message; its last accepted arrival stays, and nothing else changes
pub record SwitchedThrough (r : Ring) (i : ℕ) (next : Ring) : Type 0 where
  pub mark : at next.mark i ≡ 1
  pub rest : at next.rest i ≡ 0
  pub marks : SameBut i next.mark r.mark
  pub rests : SameBut i next.rest r.rest
  pub arrival : next.arrival ≡ r.arrival
  pub had : next.had ≡ r.had
  pub timing : SameTiming r next
  pub shaped : Shaped next

-- station i is switched in again: its mark is taken off, and nothing else changes
pub record SwitchedIn (r : Ring) (i : ℕ) (next : Ring) : Type 0 where
  pub mark : Unmarked next i
  pub marks : SameBut i next.mark r.mark
  pub rest : next.rest ≡ r.rest
  pub arrival : next.arrival ≡ r.arrival
  pub had : next.had ≡ r.had
  pub timing : SameTiming r next
  pub shaped : Shaped next

-- the message that station i held was withdrawn: what remained of it, and its arrival
pub record Withdrawn (r : Ring) (i : ℕ) (a : MarkAnswer) : Type 0 where
  pub flag : a.withdrawn ≡ 1
  pub rest : a.rest.0 ≡ at r.rest i
  pub arrival : a.arrival.0 ≡ at r.arrival i

-- none was, and the flag says so
pub record NoneWithdrawn (a : MarkAnswer) : Type 0 where
  pub flag : a.withdrawn ≡ 0
  pub rest : a.rest.0 ≡ 0
  pub arrival : a.arrival.0 ≡ 0

-- the ring in which the station that has the token is idle: it holds no message, and it is not marked
abbrev pub idle : Ring → Ring
idle r = switched_in (switched_through r r.token) r.token

-- the same frames, and none of them asked for
abbrev pub silent : Ask → Ask
silent ask = record { frames = 0; length = ask.length }

-- the marked station's visit is that of an idle one that asks for nothing: it goes, and the timers, the clock, the starts, the token and the count move alike
pub record WalksAsIdle (r : Ring) (ask : Ask) (next : Ring) : Type 0 where
  pub goes : (visited (idle r) (silent ask)).answer.number ≡ 0
  pub timing : SameTiming (visited (idle r) (silent ask)).ring next

-- where no station is marked, the three definitions that ask for the mark are the formulas of before
pub record NothingNew (r : Ring) : Type 0 where
  pub limit_timely : ¬ Fddi r.set → limit r ≡ ttrt r - overrun r - r.unused - at r.trt r.token
  pub limit_fddi : Fddi r.set → limit r ≡ offered (ttrt r) (timer_of (timers_of r) r.token)
  pub most : most_sent r ≡ share r r.token
  pub free : (m : Message) → Known r m → Free r m ↔ (at r.rest m.station.0 ≡ 0)

-- ---- rings are compared over the first N places

-- two lists are the same over the first n places
abbrev pub SameFirst : ℕ → List ℕ → List ℕ → Type 0
SameFirst n xs ys = (i : ℕ) → i < n → at xs i ≡ at ys i

-- two rings are the same over their numbers and the first N places
pub record SameRing (a b : Ring) : Type 0 where
  pub set : SameSet a.set b.set
  pub alloc : SameFirst (count a) a.alloc.s b.alloc.s
  pub trt : SameFirst (count a) a.trt b.trt
  pub late : SameFirst (count a) a.late b.late
  pub sent : SameFirst (count a) a.sent b.sent
  pub rest : SameFirst (count a) a.rest b.rest
  pub arrival : SameFirst (count a) a.arrival b.arrival
  pub had : SameFirst (count a) a.had b.had
  pub mark : SameFirst (count a) a.mark b.mark
  pub last : SameFirst (count a) a.last b.last
  pub clock : a.clock ≡ b.clock
  pub visits : a.visits ≡ b.visits
  pub token : a.token ≡ b.token
  pub unused : a.unused ≡ b.unused

-- ---- what a mode leaves alone

-- the ring with other late counts
abbrev pub with_late : List ℕ → Ring → Ring
with_late late r = with_timers (record { trt = r.trt; late = late; unused = r.unused }) r

-- the ring with another u
abbrev pub with_unused : ℕ → Ring → Ring
with_unused unused r = with_timers (record { trt = r.trt; late = r.late; unused = unused }) r

-- what is so changed at a ring changes no answer, and is there after each call as it was before
pub record LeftAlone (change : Ring → Ring) (r : Ring) : Type 0 where
  pub sound : is_sound (change r) ≡ is_sound r
  pub visit : (ask : Ask) → (visited (change r) ask).answer ≡ (visited r ask).answer
  pub visit_ring : (ask : Ask) → (visited (change r) ask).ring ≡ change (visited r ask).ring
  pub message : (m : Message) → (handed_in (change r) m).number ≡ (handed_in r m).number
  pub message_ring : (m : Message) → (handed_in (change r) m).ring ≡ change (handed_in r m).ring
  pub mark : (s : Station) → (marked (change r) s).answer ≡ (marked r s).answer
  pub mark_ring : (s : Station) → (marked (change r) s).ring ≡ change (marked r s).ring
  pub unmark : (s : Station) → (unmarked (change r) s).number ≡ (unmarked r s).number
  pub unmark_ring : (s : Station) → (unmarked (change r) s).ring ≡ change (unmarked r s).ring

-- the ring with other marks
abbrev pub with_marks : List ℕ → Ring → Ring
with_marks marks r = with_messages (record { rest = r.rest; arrival = r.arrival; had = r.had; mark = marks }) r

-- ---- the promises

pub record Promised : Type 0 where
  -- opening: 2 exactly if the count of stations is wrong
  pub opening_two : (t : Set) (a : Alloc) → ((opening t a).number ≡ 2) ↔ ¬ CountAllowed t
  -- 4 exactly if that passes and a number of the set or an S is out of its range
  pub opening_four : (t : Set) (a : Alloc) → ((opening t a).number ≡ 4) ↔ (CountAllowed t × ¬ InRange t a)
  -- 5 exactly if that passes and τ is 0 or above TTRT
  pub opening_five : (t : Set) (a : Alloc)
      → ((opening t a).number ≡ 5) ↔ (CountAllowed t × (InRange t a × ¬ WalkTimeAllowed t))
  -- 16 exactly if that passes and the mode is FDDI, whether or not the allocation meets the rules: it comes before 7
  pub opening_sixteen : (t : Set) (a : Alloc)
      → ((opening t a).number ≡ 16) ↔ (CountAllowed t × (InRange t a × (WalkTimeAllowed t × Retired t)))
  -- 7 exactly if that passes, the mode is another one, and the allocation breaks a rule
  pub opening_seven : (t : Set) (a : Alloc)
      → ((opening t a).number ≡ 7)
      ↔ (CountAllowed t × (InRange t a × (WalkTimeAllowed t × (¬ Retired t × ¬ KeepsRules t a))))
  -- 0 exactly if the plan is judged 0 and the mode is not FDDI
  pub opening_none : (t : Set) (a : Alloc) → ((opening t a).number ≡ 0) ↔ ((judged_plan t a ≡ 0) × ¬ Retired t)
  -- no other number is ever given: it is the judgement's, or 16
  pub opening_only : (t : Set) (a : Alloc) → ((opening t a).number ≡ judged_plan t a) ⊎ ((opening t a).number ≡ 16)
  -- in both editions of timely-token nothing has changed: the number is the judgement's
  pub opening_in_use : (t : Set) (a : Alloc) → ¬ Retired t → (opening t a).number ≡ judged_plan t a
  -- a refused opening returns the blank ring
  pub opening_blank : (t : Set) (a : Alloc) → (opening t a).number ≢ 0 → (opening t a).ring ≡ blank_ring
  -- an accepted opening returns the ring that 01's sentence has
  pub opening_fresh : (t : Set) (a : Alloc) → (opening t a).number ≡ 0 → Fresh t a (opening t a).ring
  -- and that ring is sound
  pub opening_sound : (t : Set) (a : Alloc) → (opening t a).number ≡ 0 → Sound (opening t a).ring
  -- in every mode, FDDI too, the state that opening a plan gives or used to give is just that ring
  pub opened_fresh : (t : Set) (a : Alloc) → judged_plan t a ≡ 0 → Fresh t a (opened_ring t a)
  -- and it is sound: 16 makes no state unsound
  pub opened_sound : (t : Set) (a : Alloc) → judged_plan t a ≡ 0 → Sound (opened_ring t a)
  -- the test of soundness holds exactly if the ring keeps 01's list
  pub sound : (r : Ring) → (is_sound r ≡ true) ↔ Sound r
  -- what that list asks of the timers: of a timely-token ring that no TRT exceeds TTRT and u is the sum of S − s
  pub sound_timely : (r : Ring) → ¬ Fddi r.set
      → TimersSound r
      ↔ (((i : ℕ) → i < count r → at r.trt i ≤ ttrt r) × (r.unused ≡ sum_below (count r) (unused_at r)))
  -- of an FDDI ring that the timers are below TTRT and the late counts at most 3
  pub sound_fddi : (r : Ring) → Fddi r.set
      → TimersSound r
      ↔ (((i : ℕ) → i < count r → at r.trt i < ttrt r) × ((i : ℕ) → i < count r → at r.late i ≤ 3))
  -- the synchronous part comes first, and so nothing ahead of it; in the 2002 edition the asynchronous part does
  pub lead_none : (t : Set) (async : ℕ) → ¬ Earlier t → lead t async ≡ 0
  pub lead_all : (t : Set) (async : ℕ) → Earlier t → lead t async ≡ async
  -- a visit: 8 exactly if the ring is unsound
  pub visit_eight : (r : Ring) (ask : Ask) → ((visited r ask).answer.number ≡ 8) ↔ ¬ Sound r
  -- 10 exactly if it is sound and the length of the frames asked for is not 1 to F
  pub visit_ten : (r : Ring) (ask : Ask) → ((visited r ask).answer.number ≡ 10) ↔ (Sound r × ¬ LengthNamed r ask)
  -- 13 exactly if that passes and the clock is above 1,000,000,000,000
  pub visit_thirteen : (r : Ring) (ask : Ask)
      → ((visited r ask).answer.number ≡ 13) ↔ (Sound r × (LengthNamed r ask × ¬ (r.clock ≤ most_clock)))
  -- 0 exactly if all that passes
  pub visit_none : (r : Ring) (ask : Ask)
      → ((visited r ask).answer.number ≡ 0) ↔ (Sound r × (LengthNamed r ask × (r.clock ≤ most_clock)))
  -- no other number is ever given: for a bad set or allocation inside a ring 8, never 2, 4, 5 or 7, and for FDDI never 16
  pub visit_only : (r : Ring) (ask : Ask)
      → ((visited r ask).answer.number ≡ 0)
      ⊎ ((visited r ask).answer.number ≡ 8)
      ⊎ ((visited r ask).answer.number ≡ 10)
      ⊎ ((visited r ask).answer.number ≡ 13)
  -- a refused visit gives back the very ring
  pub visit_unchanged : (r : Ring) (ask : Ask) → (visited r ask).answer.number ≢ 0 → (visited r ask).ring ≡ r
  -- and a blank record
  pub visit_blank : (r : Ring) (ask : Ask)
      → (visited r ask).answer.number ≢ 0 → (visited r ask).answer.«record» ≡ blank_record
  -- an accepted visit does the five steps, and the record says so. `Shaped` holds of any ring of the code, and so of any that is lent: `rings::count_places` ensures it
  pub visit_done : (r : Ring) (ask : Ask)
      → Shaped r → (visited r ask).answer.number ≡ 0
      → Done r ask (visited r ask).ring (visited r ask).answer.«record»
  -- a set without F and an ask of length 1 go as the rule of before
  pub uncut_visit : (r : Ring) (ask : Ask) → Shaped r → r.set.head.frame ≡ 1 → ask.length ≡ 1 → UncutVisit r ask
  -- the margin is exact: above 0, at 0, and below 0 where the finish is late
  pub margin_kept : (deadline finish k : ℕ) → deadline ≡ finish + k → sub_ℕ deadline finish ≡ pos k
  pub margin_late : (deadline finish k : ℕ) → finish ≡ deadline + suc k → sub_ℕ deadline finish ≡ negsuc k
  -- handing in: 8 exactly if the ring is unsound
  pub message_eight : (r : Ring) (m : Message) → ((handed_in r m).number ≡ 8) ↔ ¬ Sound r
  -- 9 exactly if it is sound and the station number is not below N
  pub message_nine : (r : Ring) (m : Message) → ((handed_in r m).number ≡ 9) ↔ (Sound r × ¬ Known r m)
  -- 10 exactly if that passes and the length is 0 or above C
  pub message_ten : (r : Ring) (m : Message)
      → ((handed_in r m).number ≡ 10) ↔ (Sound r × (Known r m × ¬ LengthAllowed r m))
  -- 11 exactly if that passes and the station holds an unsent message or is marked
  pub message_eleven : (r : Ring) (m : Message)
      → ((handed_in r m).number ≡ 11) ↔ (Sound r × (Known r m × (LengthAllowed r m × ¬ Free r m)))
  -- 15 exactly if that passes and the arrival is later than the clock; it comes before 12
  pub message_fifteen : (r : Ring) (m : Message)
      → ((handed_in r m).number ≡ 15) ↔ (Sound r × (Known r m × (LengthAllowed r m × (Free r m × ¬ Arrived r m))))
  -- 12 exactly if that passes and the arrival is not allowed
  pub message_twelve : (r : Ring) (m : Message)
      → ((handed_in r m).number ≡ 12)
      ↔ (Sound r × (Known r m × (LengthAllowed r m × (Free r m × (Arrived r m × ¬ ArrivalAllowed r m)))))
  -- 0 exactly if all that passes
  pub message_none : (r : Ring) (m : Message) → ((handed_in r m).number ≡ 0) ↔ (Sound r × Takes r m)
  -- no other number is ever given
  pub message_only : (r : Ring) (m : Message)
      → ((handed_in r m).number ≡ 0)
      ⊎ ((8 ≤ (handed_in r m).number) × ((handed_in r m).number ≤ 12))
      ⊎ ((handed_in r m).number ≡ 15)
  -- a refused handing in gives back the very ring
  pub message_unchanged : (r : Ring) (m : Message) → (handed_in r m).number ≢ 0 → (handed_in r m).ring ≡ r
  -- an accepted message is held, and nothing else in the ring changes; this too of any ring that is lent, and so the others that ask for `Shaped`
  pub message_held : (r : Ring) (m : Message) → Shaped r → (handed_in r m).number ≡ 0 → Held r m (handed_in r m).ring
  -- and the ring is as sound as before
  pub message_sound : (r : Ring) (m : Message) → Shaped r → (handed_in r m).number ≡ 0 → Sound (handed_in r m).ring
  -- marking: 8 exactly if the ring is unsound
  pub mark_eight : (r : Ring) (s : Station) → ((marked r s).answer.number ≡ 8) ↔ ¬ Sound r
  -- 9 exactly if it is sound and the station number is not below N
  pub mark_nine : (r : Ring) (s : Station) → ((marked r s).answer.number ≡ 9) ↔ (Sound r × ¬ (s.0 < count r))
  -- 0 exactly if both pass
  pub mark_none : (r : Ring) (s : Station) → ((marked r s).answer.number ≡ 0) ↔ (Sound r × (s.0 < count r))
  -- no other number is ever given
  pub mark_only : (r : Ring) (s : Station)
      → ((marked r s).answer.number ≡ 0) ⊎ ((marked r s).answer.number ≡ 8) ⊎ ((marked r s).answer.number ≡ 9)
  -- a refused marking gives back the very ring, and withdraws nothing
  pub mark_unchanged : (r : Ring) (s : Station)
      → (marked r s).answer.number ≢ 0 → ((marked r s).ring ≡ r) × NoneWithdrawn (marked r s).answer
  -- a station that was not marked is switched through
  pub mark_switches : (r : Ring) (s : Station)
      → Shaped r → (marked r s).answer.number ≡ 0 → Unmarked r s.0 → SwitchedThrough r s.0 (marked r s).ring
  -- the message that it held is withdrawn; where it held none, nothing is
  pub mark_withdraws : (r : Ring) (s : Station)
      → (marked r s).answer.number ≡ 0 → Unmarked r s.0 → 0 < at r.rest s.0
      → Withdrawn r s.0 (marked r s).answer
  pub mark_takes_none : (r : Ring) (s : Station) → at r.rest s.0 ≡ 0 → NoneWithdrawn (marked r s).answer
  -- at a station that is marked already nothing changes and nothing is withdrawn
  pub mark_stays : (r : Ring) (s : Station)
      → Marked r s.0 → ((marked r s).ring ≡ r) × NoneWithdrawn (marked r s).answer
  -- so marking twice changes nothing, and the second marking withdraws nothing
  pub mark_twice : (r : Ring) (s : Station)
      → Shaped r
      → ((marked (marked r s).ring s).ring ≡ (marked r s).ring) × NoneWithdrawn (marked (marked r s).ring s).answer
  -- which arrivals 12 allows stays: the withdrawn message's is still the station's last accepted one
  pub mark_arrivals : (r : Ring) (s : Station) (m : Message) → ArrivalAllowed (marked r s).ring m ↔ ArrivalAllowed r m
  -- while a station is marked, messages get 11
  pub marked_eleven : (r : Ring) (m : Message)
      → Sound r → Known r m → LengthAllowed r m → Marked r m.station.0 → (handed_in r m).number ≡ 11
  -- taking the mark off has the numbers of marking
  pub unmark_number : (r : Ring) (s : Station) → (unmarked r s).number ≡ (marked r s).answer.number
  -- refused, it gives back the very ring
  pub unmark_unchanged : (r : Ring) (s : Station) → (unmarked r s).number ≢ 0 → (unmarked r s).ring ≡ r
  -- accepted, it switches the station in again
  pub unmark_switches : (r : Ring) (s : Station)
      → Shaped r → (unmarked r s).number ≡ 0 → SwitchedIn r s.0 (unmarked r s).ring
  -- and changes nothing at a station that is not marked
  pub unmark_stays : (r : Ring) (s : Station) → Unmarked r s.0 → (unmarked r s).ring ≡ r
  -- the token walks through a marked station as through an idle one, in each mode
  pub marked_walks : (r : Ring) (ask : Ask)
      → Shaped r → (visited r ask).answer.number ≡ 0 → Marked r r.token → WalksAsIdle r ask (visited r ask).ring
  -- whether a ring is sound does not go by its marks
  pub sound_marks : (r : Ring) (marks : List ℕ) → is_sound (with_marks marks r) ≡ is_sound r
  -- both leave a sound ring sound
  pub mark_sound : (r : Ring) (s : Station) → Sound r → Sound (marked r s).ring
  pub unmark_sound : (r : Ring) (s : Station) → Sound r → Sound (unmarked r s).ring
  -- where no station is marked, nothing is new
  pub nothing_new : (r : Ring) → r.token < count r → ((i : ℕ) → i < count r → Unmarked r i) → NothingNew r
  -- places from N on are never looked at, in opening
  pub first_places_opening : (t u : Set) (a b : Alloc) → SameSet t u → SameFirst t.n a.s b.s
      → ((opening t a).number ≡ (opening u b).number)
      × ((opening t a).number ≡ 0 → SameRing (opening t a).ring (opening u b).ring)
  -- in the state that opening gives or used to give
  pub first_places_opened : (t u : Set) (a b : Alloc)
      → SameSet t u → SameFirst t.n a.s b.s → judged_plan t a ≡ 0 → SameRing (opened_ring t a) (opened_ring u b)
  -- in the test of soundness
  pub first_places_sound : (a b : Ring) → SameRing a b → is_sound a ≡ is_sound b
  -- in a visit
  pub first_places_visit : (a b : Ring) (ask : Ask) → Shaped a → Shaped b → SameRing a b
      → ((visited a ask).answer ≡ (visited b ask).answer) × SameRing (visited a ask).ring (visited b ask).ring
  -- in handing in
  pub first_places_message : (a b : Ring) (m : Message) → Shaped a → Shaped b → SameRing a b
      → ((handed_in a m).number ≡ (handed_in b m).number) × SameRing (handed_in a m).ring (handed_in b m).ring
  -- and in marking and taking the mark off
  pub first_places_mark : (a b : Ring) (s : Station) → Shaped a → Shaped b → SameRing a b
      → ((marked a s).answer ≡ (marked b s).answer) × SameRing (marked a s).ring (marked b s).ring
  pub first_places_unmark : (a b : Ring) (s : Station) → Shaped a → Shaped b → SameRing a b
      → ((unmarked a s).number ≡ (unmarked b s).number) × SameRing (unmarked a s).ring (unmarked b s).ring
  -- a timely-token ring's late counts are neither looked at nor changed
  pub late_alone : (r : Ring) (late : List ℕ) → ¬ Fddi r.set → LeftAlone (with_late late) r
  -- and an FDDI ring's u is neither looked at nor changed
  pub unused_alone : (r : Ring) (unused : ℕ) → Fddi r.set → LeftAlone (with_unused unused) r
