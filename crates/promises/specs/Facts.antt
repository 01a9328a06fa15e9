-- What an accepted visit, an accepted handing in and a mark set or taken off do, as facts that add up: `ring_rules` promises it of the rings' steps (`Done`, `Held`), and `proofs/Steps.antt` reads these records off that. The other promises are proved of these records alone: another step function that gives them keeps the same promises. Every kind of ring gives `VisitCourse` and `VisitMessages`; the timers' half is `VisitTimers` and `VisitOffer` of a timely-token ring, `VisitLaps` of an FDDI ring.
use Rattle.std.specs.Prelude.{ℕ, ◌+◌, ◌-◌, ◌≤◌, ◌<◌, min, ◌≡◌, List, ◌⊎◌, ◌≢◌}
use Rattle.std.proofs.Math.IntN.{sub_ℕ}
use Rattle.units.specs.Numbers.{most_clock}
use Rattle.units.specs.Places.{at}
use Rattle.sets.specs.declared.Set.{Set}
use Rattle.plans.specs.declared.Alloc.{Alloc}
use Rattle.fddi_timer_rules.specs.Kept.{Plan, Visit}
use Rattle.rings.specs.State.{following, Unmarked, Shaped, timers_of, with_messages, no_messages}
use Rattle.rings.specs.Timers.{Fddi, lead, has_run}
use Rattle.rings.specs.declared.Ring.{Ring}
use Rattle.rings.specs.declared.Message.{Message}
use Rattle.rings.specs.declared.MarkAnswer.{MarkAnswer}
use Rattle.rings.specs.declared.VisitRecord.{VisitRecord}
use Rattle.promises.specs.History.{overrun_of, sync_start_of}
use Rattle.promises.specs.Valid.{WalkedThrough}

-- ---- the timing of a ring: all that it has beside its messages and marks, which is the ring without them
abbrev pub Timing : Type 0
Timing = Ring

abbrev pub timing : Ring → Timing
timing = with_messages no_messages

-- what the clock and every timer rise by
abbrev pub rises : Set → VisitRecord → ℕ
rises t v = v.synchronous.0 + v.asynchronous.0 + at t.w v.station.0

-- ---- the course of a visit: of timing r with the plan (t, a) the visit v makes timing q
pub record VisitCourse (t : Set) (a : Alloc) (r q : Timing) (v : VisitRecord) : Type 0 where
  -- the record says where and when
  pub station : v.station.0 ≡ r.token
  pub start : v.start.0 ≡ r.clock
  -- the plan stays
  pub set : q.set ≡ t
  pub alloc : q.alloc ≡ a
  -- the synchronous part is within S; s of this station is what it sent, of the others what it was
  pub within : v.synchronous.0 ≤ at a.s r.token
  pub sent_here : at q.sent r.token ≡ v.synchronous.0
  pub sent_there : (i : ℕ) → i ≢ r.token → at q.sent i ≡ at r.sent i
  -- the clock rises
  pub clock : q.clock ≡ r.clock + rises t v
  -- the start of this station's last synchronous part is this one's
  pub last_here : at q.last r.token ≡ sync_start_of t v
  pub last_there : (i : ℕ) → i ≢ r.token → at q.last i ≡ at r.last i
  -- the token moves on, and the visit is counted
  pub token : q.token ≡ following t.n r.token
  pub visits : q.visits ≡ r.visits + 1

-- ---- the timers of a timely-token visit, in both editions
pub record VisitTimers (t : Set) (r q : Timing) (v : VisitRecord) : Type 0 where
  pub timer : v.trt.0 ≡ at r.trt r.token
  -- the asynchronous part leaves room: where u and TRT are within TTRT, they still are with what was sent
  pub room : r.unused + at r.trt r.token ≤ t.head.ttrt
      → v.asynchronous.0 + r.unused + at r.trt r.token ≤ t.head.ttrt
  -- u falls as s rises
  pub unused : q.unused + v.synchronous.0 ≡ r.unused + at r.sent r.token
  -- every TRT rises with the clock, this station's from 0 at the start of its synchronous part
  pub trt_here : at q.trt r.token + lead t v.asynchronous.0 ≡ rises t v
  pub trt_there : (i : ℕ) → i < t.n → i ≢ r.token → at q.trt i ≡ at r.trt i + rises t v

-- ---- the offer: the limit of a visit, and what was sent of it. The timing needs no more of it than `room` above
pub record VisitOffer (t : Set) (r : Timing) (mark : ℕ) (v : VisitRecord) : Type 0 where
  -- where the station is not marked, the larger of TTRT − (F − 1) − u − TRT and 0
  pub limit : mark ≡ 0 → v.limit.0 ≡ t.head.ttrt - overrun_of t - r.unused - at r.trt r.token
  -- the last frame runs on past it by at most F − 1; where nothing is offered, nothing is sent
  pub within : v.asynchronous.0 ≤ v.limit.0 + overrun_of t
  pub shut : v.limit.0 ≡ 0 → v.asynchronous.0 ≡ 0
  -- where it is marked, 0
  pub marked : 0 < mark → v.limit.0 ≡ 0

-- ---- the timers of an FDDI visit: each station has one number, `has_run`: how long its timer has run, with TTRT for each time that it is late

-- the plan as `fddi_timer_rules` has it
abbrev pub timer_plan : Set → Alloc → Plan
timer_plan t a = record { n = t.n; ttrt = t.head.ttrt; f = overrun_of t; s = at a.s; w = at t.w }

pub record VisitLaps (t : Set) (a : Alloc) (r q : Timing) (v : VisitRecord) : Type 0 where
  -- the visit moves every station's number as `fddi_timer_rules` says
  pub moves : Visit (timer_plan t a) (has_run t (timers_of r)) (has_run t (timers_of q)) r.token (rises t v)
  -- and leaves every timer below TTRT
  pub below : (i : ℕ) → i < t.n → at q.trt i < t.head.ttrt

-- ---- the message half: `begins` is when the synchronous part starts

-- the station holds a message that has arrived, and sends the smaller of S and what remains
pub record Sending (a : Alloc) (r : Ring) (begins : ℕ) (v : VisitRecord) : Type 0 where
  pub held : 0 < at r.rest r.token
  pub arrived : at r.arrival r.token ≤ begins
  pub amount : v.synchronous.0 ≡ min (at a.s r.token) (at r.rest r.token)

-- or it sends nothing, because it holds none, or one that has not arrived yet, which no ring that is reached holds
pub record Silent (r : Ring) (begins : ℕ) (v : VisitRecord) : Type 0 where
  pub nothing : v.synchronous.0 ≡ 0
  pub reason : (at r.rest r.token ≡ 0) ⊎ (begins < at r.arrival r.token)

-- the held message was completed, and the record has its finish and its margin
pub record Completing (t : Set) (r q : Ring) (begins : ℕ) (v : VisitRecord) : Type 0 where
  pub flag : v.completed ≡ 1
  pub held : 0 < at r.rest r.token
  pub finish : v.finish.0 ≡ begins + v.synchronous.0
  pub margin : v.margin ≡ sub_ℕ (at r.arrival r.token + at t.d r.token) v.finish.0
  pub over : at q.rest r.token ≡ 0

-- or none was
pub record Leaving (r q : Ring) (v : VisitRecord) : Type 0 where
  pub flag : v.completed ≡ 0
  pub left : (at r.rest r.token ≡ 0) ⊎ (0 < at q.rest r.token)

pub record VisitMessages (t : Set) (a : Alloc) (r q : Ring) (v : VisitRecord) : Type 0 where
  -- what was sent of the message comes off its remainder
  pub rest_here : at q.rest r.token + v.synchronous.0 ≡ at r.rest r.token
  pub rest_there : (i : ℕ) → i ≢ r.token → at q.rest i ≡ at r.rest i
  -- arrivals stay
  pub arrival : q.arrival ≡ r.arrival
  pub had : q.had ≡ r.had
  -- so do marks
  pub mark : q.mark ≡ r.mark
  pub sending : Sending a r (sync_start_of t v) v ⊎ Silent r (sync_start_of t v) v
  pub completing : Completing t r q (sync_start_of t v) v ⊎ Leaving r q v

-- ---- what every accepted visit gives, by the mode: of ring r it makes ring q, and the record v
pub record VisitFacts (r q : Ring) (v : VisitRecord) : Type 0 where
  pub course : VisitCourse r.set r.alloc (timing r) (timing q) v
  -- the messages, where none is held under a mark, as in every ring that is reached
  pub messages : (0 < at r.rest r.token → Unmarked r r.token) → VisitMessages r.set r.alloc r q v
  -- a station that is marked is offered 0 and sends nothing
  pub through : (before : List VisitRecord) → WalkedThrough (at r.mark r.token) v before
  pub timers : ¬ Fddi r.set → VisitTimers r.set (timing r) (timing q) v
  pub offer : ¬ Fddi r.set → VisitOffer r.set (timing r) (at r.mark r.token) v
  pub laps : Fddi r.set → VisitLaps r.set r.alloc (timing r) (timing q) v

-- ---- the accepted handing in of m makes ring q of ring r
pub record Accepting (t : Set) (r q : Ring) (m : Message) : Type 0 where
  -- what was asked of the message
  pub known : m.station.0 < t.n
  pub length : (1 ≤ m.length.0) × (m.length.0 ≤ at t.c m.station.0)
  pub free : at r.rest m.station.0 ≡ 0
  pub unmarked : Unmarked r m.station.0
  pub arrived : m.arrival.0 ≤ r.clock
  pub range : m.arrival.0 ≤ most_clock
  pub later : m.station.0 < r.visits → at r.last m.station.0 < m.arrival.0
  pub gap : at r.had m.station.0 ≢ 0
      → at r.arrival m.station.0 + at t.p m.station.0 ≤ m.arrival.0
  -- what it does: nothing to the timing
  pub timing_same : timing q ≡ timing r
  pub rest_here : at q.rest m.station.0 ≡ m.length.0
  pub rest_there : (i : ℕ) → i ≢ m.station.0 → at q.rest i ≡ at r.rest i
  pub arrival_here : at q.arrival m.station.0 ≡ m.arrival.0
  pub arrival_there : (i : ℕ) → i ≢ m.station.0 → at q.arrival i ≡ at r.arrival i
  pub had_here : at q.had m.station.0 ≢ 0
  pub had_there : (i : ℕ) → i ≢ m.station.0 → at q.had i ≡ at r.had i
  pub mark_same : q.mark ≡ r.mark

-- ---- an accepted marking, or a mark that is taken off, makes ring q of ring r
pub record Switching (r q : Ring) : Type 0 where
  -- nothing to the timing, and nothing to what is kept of the last message
  pub timing_same : timing q ≡ timing r
  pub arrival : q.arrival ≡ r.arrival
  pub had : q.had ≡ r.had
  -- what remains of a message stays, or all of it is taken back
  pub rest : (i : ℕ) → (at q.rest i ≡ at r.rest i) ⊎ (at q.rest i ≡ 0)
  -- and no message is held under a mark, if none was
  pub clear : ((i : ℕ) → 0 < at r.rest i → Unmarked r i) → (i : ℕ) → 0 < at q.rest i → Unmarked q i
  pub shaped : Shaped q

-- what it makes of the marks: at station p the mark is as `now` says, elsewhere as it was
pub record Remarking (r q : Ring) (p now : ℕ) : Type 0 where
  pub known : p < r.set.n
  -- a marking leaves a mark that is there
  pub here : at r.mark p ≤ 1 → at q.mark p ≡ now
  pub there : (i : ℕ) → i ≢ p → at q.mark i ≡ at r.mark i

-- what a marking of station p takes back: where it is not marked yet and holds a message, that message
pub record TakingBack (r q : Ring) (p : ℕ) (a : MarkAnswer) : Type 0 where
  pub flag : Unmarked r p → 0 < at r.rest p → a.withdrawn ≡ 1
  pub rest : Unmarked r p → 0 < at r.rest p → a.rest.0 ≡ at r.rest p
  pub arrival : Unmarked r p → 0 < at r.rest p → a.arrival.0 ≡ at r.arrival p
  pub there : (i : ℕ) → i ≢ p → at q.rest i ≡ at r.rest i

-- ---- what every accepted marking of station p, with answer a, gives
pub record MarkFacts (r q : Ring) (p : ℕ) (a : MarkAnswer) : Type 0 where
  pub switching : Switching r q
  pub marks : Remarking r q p 1
  pub taking : TakingBack r q p a

-- and every accepted taking off of its mark
pub record UnmarkFacts (r q : Ring) (p : ℕ) : Type 0 where
  pub switching : Switching r q
  pub marks : Remarking r q p 0
  -- no message is taken back
  pub rest : q.rest ≡ r.rest
