-- What `Waits` says of lists of visits is said of the visits among further calls: these are the latest of the run, the first of them starts at the clock from which the calls go on, and the asks are those of the accepted visits.
use Prim.Native.Nat.{ℕ, zero, suc, ◌+◌, ◌*◌, ◌≤◌, ◌<◌}
use mathlib.Core.Path.{◌≡◌, refl, ap, ◌∙◌}
use mathlib.Core.List.{List, [], ◌∷◌, ◌++◌, append-nil, append_assoc}
use mathlib.Core.Logic.{◌⊎◌, inl, inr, ◌≢◌, ⊎_elim}
use native.Mathlib.Nat.{mul_comm}
use native.Mathlib.Omega.{arith}
use lib.ListN.{length}
use Rattle.units.specs.Places.{at}
use Rattle.units.proofs.SmallLaws.{below_or_not, one_more_lem}
use Rattle.sets.specs.declared.Set.{Set}
use Rattle.plans.specs.Rules.{spare_time}
use Rattle.plans.specs.Planned.{judged_plan}
use Rattle.plans.specs.declared.Alloc.{Alloc}
use Rattle.rings.specs.Steps.{Ask, blank_record, visit_number, visited}
use Rattle.rings.specs.HandingIn.{hand_in_number, handed_in}
use Rattle.rings.specs.Marking.{marked, unmarked}
use Rattle.rings.specs.declared.Ring.{Ring}
use Rattle.rings.specs.declared.Message.{Message}
use Rattle.rings.specs.declared.VisitRecord.{VisitRecord}
use Rattle.promises.specs.Run.{Call, visit, message, mark, unmark, Event, a_visit, a_message, a_marking, an_unmarking, Run, noted, after, run, run_of, records_in, records}
use Rattle.promises.specs.History.{overrun_of, Each, Somewhere, EachVisit, NeverMarked}
use Rattle.promises.specs.Facts.{Timing, timing}
use Rattle.promises.specs.Valid.{Timely as Mode, InTurn}
use Rattle.promises.specs.Bulk.{events_among, visits_among, NotMarkedAt, ticks_asked, Asks, AlwaysAsks, Offered, longest_wait, BulkServed}
use Rattle.promises.proofs.Windows.{look_back_all}
use Rattle.promises.proofs.Course.{Plan, same_or_not}
use Rattle.promises.proofs.Timing.{latest_within}
use Rattle.promises.proofs.Steps.{visit_enough, visit_through, mark_switching, unmark_switching}
use Rattle.promises.proofs.Opening.{plan_of_lem}
use Rattle.promises.proofs.Runs.{made, held_run, visit_goes, visit_stops, not_noted, course_facts, message_facts, after_message, steady_after, steady_run}
use Rattle.promises.proofs.Timely.{TimelyVisit, Timely, steady, timely}
use Rattle.promises.proofs.Lists.{somewhere_of, each_append, each_both, records_append, each_record_of, never_at}
use Rattle.promises.proofs.Rotations.{Punctual, punctual, InOrder, soon}
use Rattle.promises.proofs.Waits.{OwnExact, OfferedSoon, offered, offered_soon}

-- ---- the visits among further calls

noted_before : {A : Type 0} (k : ℕ) (x : A) (new old : List A) → noted k x (new ++ old) ≡ noted k x new ++ old
unfolding noted
noted_before zero x new old = refl
noted_before (suc k) x new old = refl

-- the events of a run that goes on with this ring and these events
abbrev told : Ring → List Event → List Call → List Event
told r events later = (run (record { ring = r; events = events }) later).events

-- what was told before stays behind what is told now
splits : (later : List Call) (r : Ring) (new old : List Event) → told r (new ++ old) later ≡ told r new later ++ old
unfolding run after
splits [] r new old = refl
splits (visit ask ∷ later) r new old =
    let q = (visited r ask).ring in
    let k = (visited r ask).answer.number in
    let x = a_visit (at r.mark r.token) (visited r ask).answer.«record» in
    ap (λ (l : List Event). told q l later) (noted_before k x new old) ∙ splits later q (noted k x new) old
splits (message m ∷ later) r new old =
    let q = (handed_in r m).ring in
    let k = (handed_in r m).number in
    ap (λ (l : List Event). told q l later) (noted_before k (a_message m) new old) ∙ splits later q (noted k (a_message m) new) old
splits (mark p ∷ later) r new old =
    let q = (marked r p).ring in
    let k = (marked r p).answer.number in
    let x = a_marking p (marked r p).answer in
    ap (λ (l : List Event). told q l later) (noted_before k x new old) ∙ splits later q (noted k x new) old
splits (unmark p ∷ later) r new old =
    let q = (unmarked r p).ring in
    let k = (unmarked r p).number in
    ap (λ (l : List Event). told q l later) (noted_before k (an_unmarking p) new old) ∙ splits later q (noted k (an_unmarking p) new) old

-- what happened in the run is what happened among the further calls, and before
events_added : (s : Run) (later : List Call) → (run s later).events ≡ events_among s later ++ s.events
events_added s later = splits later s.ring [] s.events

-- and so the visits
visits_added : (s : Run) (later : List Call) → records (run s later) ≡ visits_among s later ++ records s
visits_added s later = ap records_in (events_added s later) ∙ records_append (events_among s later) s.events

-- a call more, at the front
events_more : (s : Run) (c : Call) (later : List Call) → events_among s (c ∷ later) ≡ events_among (after s c) later ++ events_among s (c ∷ [])
unfolding run after
events_more s (visit ask) later =
    splits later (visited s.ring ask).ring []
    (noted (visited s.ring ask).answer.number (a_visit (at s.ring.mark s.ring.token) (visited s.ring ask).answer.«record») [])
events_more s (message m) later = splits later (handed_in s.ring m).ring [] (noted (handed_in s.ring m).number (a_message m) [])
events_more s (mark p) later = splits later (marked s.ring p).ring [] (noted (marked s.ring p).answer.number (a_marking p (marked s.ring p).answer) [])
events_more s (unmark p) later = splits later (unmarked s.ring p).ring [] (noted (unmarked s.ring p).number (an_unmarking p) [])

visits_more : (s : Run) (c : Call) (later : List Call) → visits_among s (c ∷ later) ≡ visits_among (after s c) later ++ visits_among s (c ∷ [])
visits_more s c later = ap records_in (events_more s c later) ∙ records_append (events_among (after s c) later) (events_among s (c ∷ []))

-- a call that adds these visits adds them behind those of the later ones
visits_then : (s : Run) (c : Call) (later : List Call) (added : List VisitRecord)
    → visits_among s (c ∷ []) ≡ added → visits_among s (c ∷ later) ≡ visits_among (after s c) later ++ added
visits_then s c later added e =
    visits_more s c later ∙ ap (λ (l : List VisitRecord). visits_among (after s c) later ++ l) e

-- ---- what one call adds

-- all that is offered is sent, and at most F − 1 beyond it
abbrev AllSent : Set → VisitRecord → Type 0
AllSent t v = (v.limit.0 ≤ v.asynchronous.0) × (v.asynchronous.0 ≤ v.limit.0 + overrun_of t)

-- if it is station i's, it sends all that it is offered
abbrev SendsAll : Set → ℕ → VisitRecord → Type 0
SendsAll t i v = v.station.0 ≡ i → AllSent t v

module _ (t : Set) (a : Alloc) (P : Plan t a) (s : Run) (K : Timely t a s) where
  -- no visit, and the clock stays
  record AddsNone (c : Call) : Type 0 where
    none : visits_among s (c ∷ []) ≡ []
    clock : (after s c).ring.clock ≡ s.ring.clock

  -- an accepted visit
  record AddsVisit (c : Call) : Type 0 where
    ask : Ask
    goes : visit_number s.ring ask ≡ 0
    call : c ≡ visit ask
    one : visits_among s (c ∷ []) ≡ made s ask ∷ []

  clock_stays : (m : Message) → (after s (message m)).ring.clock ≡ s.ring.clock
  clock_stays m =
      ⊎_elim (λ (h : (hand_in_number s.ring m ≡ 0) × (after s (message m) ≡ held_run s m)).
      rw h.1 (ap (λ (x : Timing). x.clock) (message_facts t a P s K.common m h.0).timing_same))
      (λ (e : after s (message m) ≡ s). rw e)
      (after_message t a P s K.common m)

  -- a call that is no visit tells of none
  none_noted : (k : ℕ) (x : Event) → records_in (x ∷ []) ≡ [] → records_in (noted k x []) ≡ []
  unfolding noted
  none_noted zero x e = e
  none_noted (suc k) x e = refl

  adds : (c : Call) → AddsNone c ⊎ AddsVisit c
  unfolding run after noted
  adds (visit ask) =
      ⊎_elim (λ (go : visit_number s.ring ask ≡ 0). inr (record { ask = ask; goes = go; call = refl; one = rw (visit_goes s.ring ask go) }))
      (λ (not : visit_number s.ring ask ≢ 0).
      inl
      (record {
        none = rw (visit_stops s.ring ask not) (ap records_in (not_noted (visit_number s.ring ask) (a_visit (at s.ring.mark s.ring.token) blank_record) [] not));
        clock = rw (visit_stops s.ring ask not);
      }))
      (same_or_not (visit_number s.ring ask) 0)
  adds (message m) = inl (record { none = none_noted (handed_in s.ring m).number (a_message m) refl; clock = clock_stays m })
  adds (mark p) =
      inl
      (record {
        none = none_noted (marked s.ring p).answer.number (a_marking p (marked s.ring p).answer) refl;
        clock = ap (λ (x : Timing). x.clock) (mark_switching s.ring K.common.places p).timing_same;
      })
  adds (unmark p) =
      inl
      (record {
        none = none_noted (unmarked s.ring p).number (an_unmarking p) refl;
        clock = ap (λ (x : Timing). x.clock) (unmark_switching s.ring K.common.places p).timing_same;
      })

  -- a visit that asks for at least A* sends all of its limit, which is at most A*
  all_sent : (ask : Ask) → visit_number s.ring ask ≡ 0 → spare_time t (at a.s) ≤ ticks_asked ask → AllSent t (made s ask)
  all_sent ask go enough =
      let visit-kept = ((steady t a P).moves s K ask go).each.0 in
      let small : (made s ask).limit.0 ≤ spare_time t (at a.s) =
      ⊎_elim (λ (on : 0 < at s.ring.mark s.ring.token). omega (arith, (visit_through s.ring K.common.places ask go []).limit on))
      (λ (off : at s.ring.mark s.ring.token ≤ 0). omega (arith, visit-kept.limit.exact (omega arith)))
      (below_or_not 0 (at s.ring.mark s.ring.token)) in
      (visit_enough s.ring K.common.places ask go (omega arith), visit-kept.limit.within)

  -- so does the visit that this call adds
  call_sends : (i : ℕ) (c : Call) → Asks i (spare_time t (at a.s)) s c → Each (λ v before. SendsAll t i v) (visits_among s (c ∷ []))
  call_sends i c asks =
      ⊎_elim (λ (n : AddsNone c). rw n.none tt)
      (λ (w : AddsVisit c).
      let enough = rw (visit_goes s.ring w.ask w.goes) at (rw w.call at asks) in
      rw w.one (λ e. all_sent w.ask w.goes (omega (arith, enough (omega arith) (omega (arith, e)))), tt))
      (adds c)

-- ---- along further calls

module _ (t : Set) (a : Alloc) (P : Plan t a) where
  next : (s : Run) → Timely t a s → (c : Call) → Timely t a (after s c)
  next s K c = steady_after t a P (Timely t a) (steady t a P) s K c

  -- no visit yet, and the clock stays
  record NotBegun (s : Run) (later : List Call) : Type 0 where
    none : visits_among s later ≡ []
    clock : (run s later).ring.clock ≡ s.ring.clock

  -- or a first visit, which starts at the clock
  record Begun (s : Run) (later : List Call) : Type 0 where
    newer : List VisitRecord
    first : VisitRecord
    visits : visits_among s later ≡ newer ++ first ∷ []
    start : first.start.0 ≡ s.ring.clock

  begun : (later : List Call) (s : Run) → Timely t a s → NotBegun s later ⊎ Begun s later
  unfolding run
  begun [] s K = inl (record { none = refl; clock = refl })
  begun (c ∷ later) s K =
      ⊎_elim (λ (n : AddsNone t a P s K c).
      let same = visits_then s c later [] n.none ∙ append-nil (visits_among (after s c) later) in
      ⊎_elim (λ (b : NotBegun (after s c) later). inl (record { none = same ∙ b.none; clock = b.clock ∙ n.clock }))
      (λ (b : Begun (after s c) later).
      inr (record { newer = b.newer; first = b.first; visits = same ∙ b.visits; start = b.start ∙ n.clock }))
      (begun later (after s c) (next s K c)))
      (λ (w : AddsVisit t a P s K c).
      inr
      (record {
        newer = visits_among (after s c) later;
        first = made s w.ask;
        visits = visits_then s c later (made s w.ask ∷ []) w.one;
        start = (course_facts t a P s K.common w.ask w.goes).start;
      }))
      (adds t a P s K c)

  sends : (i : ℕ) (later : List Call) (s : Run) → Timely t a s → AlwaysAsks i (spare_time t (at a.s)) s later → Each (λ v before. SendsAll t i v) (visits_among s later)
  unfolding run
  sends i [] s K asks = tt
  sends i (c ∷ later) s K asks =
      rw (visits_more s c later)
      (each_append (SendsAll t i) (visits_among (after s c) later) (visits_among s (c ∷ [])) (sends i later (after s c) (next s K c) asks.1) (call_sends t a P s K i c asks.0))

  -- a station that is never marked is not marked at its visits
  never_there : (s : Run) → Timely t a s → (later : List Call) (i : ℕ) → NeverMarked i (run s later).events → NotMarkedAt i s later
  never_there s K later i never =
      let told = (steady_run t a P (Timely t a) (steady t a P) s K later).common.marks_told in
      let split = events_added s later in
      never_at i (events_among s later) s.events (rw split at told) (rw split at never)

  -- ---- the promise

  module _ (mode : Mode t) (left : 1 ≤ spare_time t (at a.s)) (i : ℕ) (known : i < t.n) (s : Run) (K : Timely t a s) (later : List Call) where
    now : Timely t a (run s later)
    now = steady_run t a P (Timely t a) (steady t a P) s K later

    each_now : EachVisit (TimelyVisit t a t.n) (run s later).events
    each_now = rw (look_back_all t mode) at now.each

    in_order : Each (InOrder t a) (records (run s later))
    in_order = each_both (InTurn t) (Punctual t a) (records (run s later)) now.common.turns (each_record_of (punctual t a) (run s later).events each_now)

    -- where station i is not marked, its limits are exact
    own_exact : (es old : List Event) → EachVisit (TimelyVisit t a t.n) (es ++ old) → EachVisit (λ on v before. v.station.0 ≡ i → on ≡ 0) es
        → Each (OwnExact t a i (records_in old)) (records_in es)
    own_exact [] old E U = tt
    own_exact (a_visit on v ∷ es) old E U = (λ e. E.0.limit.exact (U.0 e) ∙ rw (records_append es old) refl, own_exact es old E.1 U.1)
    own_exact (a_message m ∷ es) old E U = own_exact es old E U
    own_exact (a_marking p x ∷ es) old E U = own_exact es old E U
    own_exact (an_unmarking p ∷ es) old E U = own_exact es old E U

    module _ (U : NotMarkedAt i s later) where
      exact : Each (OwnExact t a i (records s)) (visits_among s later)
      exact = own_exact (events_among s later) s.events (rw (events_added s later) at each_now) U

      sooner : t.n * (t.n + 1) ≤ length (visits_among s later) → Somewhere (λ v before. Offered i v) (visits_among s later)
      sooner long = offered t a i known (records s) (visits_among s later) left long (rw (visits_added s later) at in_order) exact

      -- where the clock has come further than N + 1 rotations, there were N·(N + 1) visits
      begun_ticks : (b : Begun s later) → s.ring.clock + longest_wait t < (run s later).ring.clock
          → Somewhere (OfferedSoon t a i known left b.first (records s)) (b.newer ++ b.first ∷ [])
      begun_ticks b far =
          let clock = (run s later).ring.clock in
          let same : records (run s later) ≡ b.newer ++ b.first ∷ records s = visits_added s later ∙ rw (b.visits, append_assoc) in
          let E = rw same at in_order in
          let late = rw same at (latest_within t a (timing (run s later).ring) (records (run s later)) now.timed now.common.turns) in
          ⊎_elim (λ (few : length b.newer + 1 < t.n * (t.n + 1)).
          let within : length b.newer + 1 ≤ (t.n + 1) * t.n = omega (arith, mul_comm (t.n + 1) t.n) in
          let near = soon t a b.first (records s) (t.n + 1) b.newer within E clock late in
          absurd (omega (arith, b.start)))
          (λ (long : t.n * (t.n + 1) ≤ length b.newer + 1). offered_soon t a i known left b.first (records s) b.newer long E (rw b.visits at exact))
          (below_or_not (length b.newer + 1) (t.n * (t.n + 1)))

      in_ticks : s.ring.clock + longest_wait t < (run s later).ring.clock → Somewhere (λ v before. Offered i v × (v.start.0 ≤ s.ring.clock + longest_wait t)) (visits_among s later)
      in_ticks far =
          ⊎_elim (λ (b : NotBegun s later). absurd (omega (arith, b.clock)))
          (λ (b : Begun s later).
          rw b.visits
          (somewhere_of (λ v before k. (k.0, omega (arith, b.start, k.1))) (b.newer ++ b.first ∷ []) (begun_ticks b (omega arith))))
          (begun later s K)

pub bulk : (t : Set) (a : Alloc) → judged_plan t a ≡ 0 → Mode t → 1 ≤ spare_time t (at a.s) → BulkServed t a
bulk t a h mode left =
    let P = plan_of_lem t a h in
    let every : (calls : List Call) → Timely t a (run_of t a calls) = timely t a P (λ e. omega arith) in
    record {
      served = λ calls later i known long off asks. sooner t a P mode left i known (run_of t a calls) (every calls) later off (omega (arith, one_more_lem t.n (t.n + 1)));
      unmarked = λ calls later i known long never asks.
          sooner t a P mode left i known (run_of t a calls) (every calls) later (never_there t a P (run_of t a calls) (every calls) later i never) (omega (arith, one_more_lem t.n (t.n + 1)));
      never_marked = λ calls later i never. never_there t a P (run_of t a calls) (every calls) later i never;
      sooner = λ calls later i known long off. sooner t a P mode left i known (run_of t a calls) (every calls) later off (omega arith);
      in_ticks = λ calls later i known far off. in_ticks t a P mode left i known (run_of t a calls) (every calls) later off far;
      sends = λ calls later i. sends t a P i later (run_of t a calls) (every calls);
    }
