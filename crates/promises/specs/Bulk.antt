-- Request No. 3: how long bulk data can wait. It is said of timely-token rings of the 2003 edition: that the mode is 1 is a premise of `Promised.bulk`, beside A* at least 1.
-- Where request No. 4 asks for it with F 1, it holds for every F.
use Rattle.std.specs.Prelude.{ℕ, ◌+◌, ◌*◌, ◌≤◌, ◌<◌, ◌≡◌, List, [], ◌∷◌, length}
use Rattle.units.specs.Places.{at}
use Rattle.sets.specs.declared.Set.{Set}
use Rattle.plans.specs.Rules.{spare_time}
use Rattle.plans.specs.declared.Alloc.{Alloc}
use Rattle.rings.specs.Steps.{Ask, visited}
use Rattle.rings.specs.declared.VisitRecord.{VisitRecord}
use Rattle.promises.specs.Run.{Call, visit, message, mark, unmark, Event, Run, after, run, run_of, records_in}
use Rattle.promises.specs.History.{overrun_of, Each, Somewhere, EachVisit, NeverMarked}

-- the ring of this run, with nothing told yet
abbrev pub anew : Run → Run
anew s = record { ring = s.ring; events = [] }

-- what happened among these further calls, the latest first
abbrev pub events_among : Run → List Call → List Event
events_among s later = (run (anew s) later).events

-- the accepted visits among them
abbrev pub visits_among : Run → List Call → List VisitRecord
visits_among s later = records_in (events_among s later)

-- station i is not marked at any of its visits among them
abbrev pub NotMarkedAt : ℕ → Run → List Call → Type 0
NotMarkedAt i s later = EachVisit (λ on v before. v.station.0 ≡ i → on ≡ 0) (events_among s later)

-- how long the frames asked for would take
abbrev pub ticks_asked : Ask → ℕ
ticks_asked ask = ask.frames * ask.length

-- if this call is an accepted visit of station i, it asks for at least so much
abbrev pub Asks : ℕ → ℕ → Run → Call → Type 0
Asks i least s (visit ask) =
    (visited s.ring ask).answer.number ≡ 0
    → (visited s.ring ask).answer.«record».station.0 ≡ i → least ≤ ticks_asked ask
Asks i least s (message m) = Unit {0}
Asks i least s (mark p) = Unit {0}
Asks i least s (unmark p) = Unit {0}

-- each accepted visit of station i among these further calls asks for at least so much
abbrev pub AlwaysAsks : ℕ → ℕ → Run → List Call → Type 0
AlwaysAsks i least s [] = Unit {0}
AlwaysAsks i least s (c ∷ later) = Asks i least s c × AlwaysAsks i least (after s c) later

-- a visit of station i that was offered a limit above 0
pub record Offered (i : ℕ) (v : VisitRecord) : Type 0 where
  pub station : v.station.0 ≡ i
  pub limit : 0 < v.limit.0

-- the longest wait in ticks: (N + 1)·TTRT
abbrev pub longest_wait : Set → ℕ
longest_wait t = (t.n + 1) * t.head.ttrt

-- a station of which this holds and which asks for at least A* at each of its visits is offered a limit above 0 within any (N + 1)·(N + 1) successive visits
abbrev pub ServedWhere : (ℕ → Run → List Call → Type 0) → Set → Alloc → Type 0
ServedWhere Holds t a =
    (calls later : List Call) (i : ℕ)
    → i < t.n
    → (t.n + 1) * (t.n + 1) ≤ length (visits_among (run_of t a calls) later)
    → Holds i (run_of t a calls) later
    → AlwaysAsks i (spare_time t (at a.s)) (run_of t a calls) later
    → Somewhere (λ v before. Offered i v) (visits_among (run_of t a calls) later)

-- No. 3, of a station that is not marked at any of those visits
abbrev pub Served : Set → Alloc → Type 0
Served t a = ServedWhere NotMarkedAt t a

-- what is promised of a plan with A* at least 1: after any calls, and whatever is asked for by the others, handed in or refused among the further ones
pub record BulkServed (t : Set) (a : Alloc) : Type 0 where
  pub served : Served t a
  -- No. 3 as it was asked for, of a station that is never marked, before or among the further calls
  pub unmarked : ServedWhere (λ i s later. NeverMarked i (run s later).events) t a
  -- such a station is not marked at any of its visits
  pub never_marked : (calls later : List Call) (i : ℕ)
      → NeverMarked i (run (run_of t a calls) later).events → NotMarkedAt i (run_of t a calls) later
  -- N·(N + 1) visits are enough, and whatever it asks for
  pub sooner : (calls later : List Call) (i : ℕ)
      → i < t.n
      → t.n * (t.n + 1) ≤ length (visits_among (run_of t a calls) later)
      → NotMarkedAt i (run_of t a calls) later
      → Somewhere (λ v before. Offered i v) (visits_among (run_of t a calls) later)
  -- in ticks: from any moment at which a visit may start, it is offered a limit above 0 by a visit that starts within (N + 1)·TTRT, once the clock has passed that
  pub in_ticks : (calls later : List Call) (i : ℕ)
      → i < t.n
      → (run_of t a calls).ring.clock + longest_wait t < (run (run_of t a calls) later).ring.clock
      → NotMarkedAt i (run_of t a calls) later
      → Somewhere (λ v before. Offered i v × (v.start.0 ≤ (run_of t a calls).ring.clock + longest_wait t))
      (visits_among (run_of t a calls) later)
  -- and if it asks for at least A*, it sends all that it is offered, and at most F − 1 beyond it: with F 1 just that
  pub sends : (calls later : List Call) (i : ℕ)
      → AlwaysAsks i (spare_time t (at a.s)) (run_of t a calls) later
      → Each
      (λ v before. v.station.0 ≡ i → (v.limit.0 ≤ v.asynchronous.0) × (v.asynchronous.0 ≤ v.limit.0 + overrun_of t))
      (visits_among (run_of t a calls) later)
