-- What every run of a timely-token ring, of both editions, keeps beside what every run keeps: the timers are the gaps, the limit is exact, and no message is late.
use Prim.Native.Nat.{ℕ, ◌+◌, ◌*◌, ◌-◌, ◌≤◌, ◌<◌}
use mathlib.Core.Path.{◌≡◌, refl, sym, ap, ◌∙◌}
use mathlib.Core.List.{List}
use mathlib.Core.Logic.{⊎_elim}
use mathlib.Core.Option.{none, some}
use native.Mathlib.Omega.{arith}
use borrow.Author.Tests.{le-ltb}
use lib.IntN.{pos}
use Rattle.units.specs.Places.{at, sum_below}
use Rattle.units.proofs.SmallLaws.{below_or_not}
use Rattle.units.specs.declared.Station.{Station}
use Rattle.sets.specs.Rules.{tau}
use Rattle.sets.specs.declared.Set.{Set}
use Rattle.plans.specs.Rules.{left_over, spare_time}
use Rattle.plans.proofs.PlanLaws.{spare_timely}
use Rattle.plans.specs.declared.Alloc.{Alloc}
use Rattle.rings.specs.Timers.{Fddi, silent_trt}
use Rattle.rings.proofs.TimerLaws.{fddi_false}
use Rattle.rings.specs.Steps.{Ask, visit_number}
use Rattle.rings.specs.HandingIn.{holding, hand_in_number}
use Rattle.rings.specs.Marking.{marked, unmarked}
use Rattle.rings.specs.declared.Ring.{Ring}
use Rattle.rings.specs.declared.Message.{Message}
use Rattle.rings.specs.declared.VisitRecord.{VisitRecord}
use Rattle.promises.specs.Run.{Call, Event, Run, opened, run_of, records_in, records}
use Rattle.promises.specs.History.{async_of, overrun_of, sync_start_of, latest_of, Each, EachVisit}
use Rattle.promises.specs.Facts.{timing, VisitCourse, VisitTimers, VisitOffer, VisitMessages, Completing, Leaving, Switching, rises}
use Rattle.promises.specs.Valid.{InTurn, Apart, TimerIsGap, ExactLimit, WindowKept, AnyTick, TickLimit, NoneLate}
use Rattle.promises.proofs.Windows.{look_back, async_moves}
use Rattle.promises.proofs.Course.{Plan}
use Rattle.promises.proofs.Timing.{Timed, token_timer, never_late, latest_within, rise_small, timed_kept, room}
use Rattle.promises.proofs.Messages.{Messaged, deadline_at, messaged_kept, messaged_taken, messaged_switched, completed_in_time}
use Rattle.promises.proofs.Steps.{visit_timers, visit_offer, mark_switching, unmark_switching}
use Rattle.promises.proofs.Opening.{opened_places, opened_range, opened_timed, opened_stored, opened_told, opened_passed, opened_clear, opened_mark, opened_messaged}
use Rattle.promises.proofs.Soundness.{timed_sound, is_sound_lem}
use Rattle.promises.proofs.Runs.{Kept, made, moved_run, held_run, marked_run, unmarked_run, course_facts, message_parts, next_stored, next_range, kept_moved, message_facts, kept_held, kept_marked, kept_unmarked, Steady, steady_run}

-- what is left of TTRT does not depend on the order in which the rest is taken off
taken_off : (a b c d : ℕ) → a - b - c - d ≡ a - (b + c + d)
taken_off a b c d = omega arith

left_over_lem : (ttrt f u trt walk shares window : ℕ) → u + trt ≡ window + shares + walk → ttrt - f - u - trt ≡ ttrt - (walk + f) - shares - window
left_over_lem ttrt f u trt walk shares window e =
    let same : f + u + trt ≡ walk + f + shares + window = omega arith in
    taken_off ttrt f u trt ∙ ap (λ (x : ℕ). ttrt - x) same ∙ sym (taken_off ttrt (walk + f) shares window)

-- ---- what a new record keeps

pub record TimelyVisit (t : Set) (a : Alloc) (many mark : ℕ) (v : VisitRecord) (before : List VisitRecord) : Type 0 where
  pub apart : Apart t.head.ttrt v before
  -- and so of every other station's latest visit
  pub since : (i : ℕ) → i < t.n → (u : VisitRecord) → latest_of i before ≡ some u → v.start.0 ≤ u.start.0 + t.head.ttrt
  pub timer : TimerIsGap t v before
  pub limit : ExactLimit t a many mark v before
  -- where the station is marked, nothing is sent
  pub quiet : 0 < mark → v.asynchronous.0 ≡ 0
  -- this visit and those on which its limit looks back send at most A* + (F − 1)
  pub room : v.asynchronous.0 + async_of many before ≤ spare_time t (at a.s) + overrun_of t
  pub none_late : NoneLate v before

module _ (t : Set) (a : Alloc) (r q : Ring) (v : VisitRecord) (h : List VisitRecord) (P : Plan t a) (T : Timed t a (timing r) h)
    (C : VisitCourse t a (timing r) (timing q) v) (F : VisitTimers t (timing r) (timing q) v) where
  -- the timer at the token is the gap since the latest visit
  gap_since : (u : VisitRecord) → latest_of v.station.0 h ≡ some u → v.start.0 ≡ sync_start_of t u + v.trt.0
  gap_since u e =
      omega (arith, C.start, F.timer, T.since r.token T.course.token u (ap (λ (i : ℕ). latest_of i h) (sym C.station) ∙ e))

  first_since : latest_of v.station.0 h ≡ none → v.trt.0 ≡ silent_trt t v.station.0 + v.start.0
  first_since e =
      rw C.station
      (omega (arith, C.start, F.timer, T.silent r.token T.course.token (ap (λ (i : ℕ). latest_of i h) (sym C.station) ∙ e)))

  timer_within : v.trt.0 ≤ t.head.ttrt
  timer_within = omega (arith, F.timer, never_late t a (timing r) h T r.token T.course.token, T.course.sents r.token T.course.token)

  timer_made : TimerIsGap t v h
  timer_made = record { gap = gap_since; first = λ e. omega (arith, first_since e); within = omega (arith, timer_within) }

  -- A* is what the token rule leaves
  spare_left : spare_time t (at a.s) ≡ left_over t (at a.s)
  spare_left = spare_timely t (at a.s) (fddi_false t T.mode)

  -- what the timers leave is what the window leaves of A*
  limit_made : (mark : ℕ) → VisitOffer t (timing r) mark v → ExactLimit t a (look_back t) mark v h
  limit_made mark O =
      record {
        exact = λ off.
            rw spare_left
            (O.limit off ∙ left_over_lem t.head.ttrt (overrun_of t) r.unused (at r.trt r.token) (tau t) (sum_below t.n (at a.s)) (async_of (look_back t) h) (token_timer t a (timing r) h T));
        within = O.within;
        shut = O.shut;
      }

  -- and what was sent left room
  room_made : v.asynchronous.0 + async_of (look_back t) h ≤ spare_time t (at a.s) + overrun_of t
  room_made = omega (arith, spare_left, room t a (timing r) (timing q) v h P T C F, P.token)

  module _ (G : VisitMessages t a r q v) (M : Messaged t a r r.token) where
    -- what is left to the deadline
    pub margin_made : Completing t r q (sync_start_of t v) v → v.margin ≡ pos (deadline_at t r r.token - v.finish.0)
    margin_made c = c.margin ∙ rw (le-ltb (deadline_at t r r.token) v.finish.0 (completed_in_time t a r q v h P T C F G M c))

    since_made : Each (InTurn t) h → (i : ℕ) → i < t.n → (u : VisitRecord) → latest_of i h ≡ some u → v.start.0 ≤ u.start.0 + t.head.ttrt
    since_made E i l u e = omega (arith, C.start, latest_within t a (timing r) h T E i l u e)

    none_late_made : NoneLate v h
    none_late_made flag =
        ⊎_elim (λ (c : Completing t r q (sync_start_of t v) v). (deadline_at t r r.token - v.finish.0, margin_made c))
        (λ (c : Leaving r q v). absurd (omega (arith, c.flag)))
        G.completing

    pub visit_made : Each (InTurn t) h → (mark : ℕ) → VisitOffer t (timing r) mark v → TimelyVisit t a (look_back t) mark v h
    visit_made E mark O =
        record {
          apart = λ u e. since_made E v.station.0 (rw C.station T.course.token) u e;
          since = since_made E;
          timer = timer_made;
          limit = limit_made mark O;
          quiet = λ on. O.shut (O.marked on);
          room = room_made;
          none_late = none_late_made;
        }

-- so of any N visits
pub window_kept : (t : Set) (a : Alloc) → Plan t a → (mark : ℕ) (v : VisitRecord) (before : List VisitRecord) → TimelyVisit t a (look_back t) mark v before → WindowKept t a v before
window_kept t a P mark v before k = omega (arith, k.room, async_moves t v before P.some)

-- with F 1 the limit is nowhere held at 0
pub tick_limit : (t : Set) (a : Alloc) (many : ℕ) → AnyTick t → (mark : ℕ) (v : VisitRecord) (before : List VisitRecord) → TimelyVisit t a many mark v before → TickLimit t a many mark v before
tick_limit t a many one mark v before k =
    let none : overrun_of t ≡ 0 = omega arith in
    let L = k.limit in
    ⊎_elim (λ (some : 0 < v.limit.0). record { exact = λ off. omega (arith, L.exact off); kept = omega (arith, L.within) })
    (λ (shut : v.limit.0 ≤ 0). let sent = L.shut (omega arith) in record { exact = λ off. omega (arith, L.exact off, k.room); kept = omega arith })
    (below_or_not 0 v.limit.0)

-- ---- what a run keeps

pub record Timely (t : Set) (a : Alloc) (s : Run) : Type 0 where
  pub common : Kept t a s
  pub timed : Timed t a (timing s.ring) (records s)
  pub messaged : (i : ℕ) → i < t.n → Messaged t a s.ring i
  pub each : EachVisit (TimelyVisit t a (look_back t)) s.events

module _ (t : Set) (a : Alloc) (P : Plan t a) (s : Run) (K : Timely t a s) where
  pub timer_facts : (ask : Ask) → visit_number s.ring ask ≡ 0 → VisitTimers t (timing s.ring) (timing (moved_run s ask).ring) (made s ask)
  timer_facts ask go = visit_timers s.ring K.common.places ask go t a K.common.course.set K.common.course.alloc K.timed.mode

  timely_moved : (ask : Ask) → visit_number s.ring ask ≡ 0 → Timely t a (moved_run s ask)
  timely_moved ask go =
      let r = s.ring in
      let q = (moved_run s ask).ring in
      let v = made s ask in
      let C = course_facts t a P s K.common ask go in
      let F = timer_facts ask go in
      let G = message_parts t a P s K.common ask go in
      let O = visit_offer r K.common.places ask go t a K.common.course.set K.common.course.alloc K.timed.mode in
      let token = K.common.course.token in
      let timed = timed_kept t a (timing r) (timing q) v (records s) P K.timed C F in
      let short : rises t v ≤ 2 * t.head.ttrt = omega (arith, rise_small t a (timing r) (timing q) v (records s) P K.timed C F) in
      let sound = is_sound_lem t a q (records (moved_run s ask)) P timed.course (next_range t a P s K.common ask go short) (timed_sound t a q (records (moved_run s ask)) P timed) (next_stored t a P s K.common ask go) in
      record {
        common = kept_moved t a P s K.common ask go short sound;
        timed = timed;
        messaged = messaged_kept t a r q v (records s) P K.timed C F G (K.common.passed.arrived r.token) K.messaged;
        each = (visit_made t a r q v (records s) P K.timed C F G (K.messaged r.token token) K.common.turns (at r.mark r.token) O, K.each);
      }

  timely_held : (m : Message) → hand_in_number s.ring m ≡ 0 → Timely t a (held_run s m)
  timely_held m e =
      let A = message_facts t a P s K.common m e in
      record {
        common = kept_held t a P s K.common m e;
        timed = rw A.timing_same K.timed;
        messaged = messaged_taken t a s.ring (holding s.ring m) m (records s) P K.timed A K.messaged;
        each = K.each;
      }

  -- a mark set or taken off
  timely_switched : (q : Ring) → Switching s.ring q → (es : List Event) → records_in es ≡ records s → EachVisit (TimelyVisit t a (look_back t)) es → Kept t a (record { ring = q; events = es })
      → Timely t a (record { ring = q; events = es })
  timely_switched q W es same each common =
      record {
        common = common;
        timed = rw (same, W.timing_same) K.timed;
        messaged = messaged_switched t a s.ring q (records s) P K.timed W K.messaged;
        each = each;
      }

  timely_marked : (p : Station) → (marked s.ring p).answer.number ≡ 0 → Timely t a (marked_run s p)
  timely_marked p e =
      timely_switched (marked s.ring p).ring (mark_switching s.ring K.common.places p) (marked_run s p).events refl K.each (kept_marked t a P s K.common p e)

  timely_unmarked : (p : Station) → (unmarked s.ring p).number ≡ 0 → Timely t a (unmarked_run s p)
  timely_unmarked p e =
      timely_switched (unmarked s.ring p).ring (unmark_switching s.ring K.common.places p) (unmarked_run s p).events refl K.each (kept_unmarked t a P s K.common p e)

pub steady : (t : Set) (a : Alloc) → Plan t a → Steady t a (Timely t a)
steady t a P = record { common = λ s K. K.common; moves = timely_moved t a P; takes = timely_held t a P; marks = timely_marked t a P; unmarks = timely_unmarked t a P }

-- ---- from the opened ring on

timely_opened : (t : Set) (a : Alloc) → Plan t a → ¬ Fddi t → Timely t a (opened t a)
timely_opened t a P mode =
    let timed = opened_timed t a P mode in
    record {
      common =
          record {
            places = opened_places t a P;
            course = timed.course;
            range = opened_range t a P;
            stored = opened_stored t a P;
            told = opened_told t a P;
            passed = opened_passed t a P;
            clear = opened_clear t a P;
            walked = tt;
            marks = λ i l. opened_mark t a P i;
            marks_told = tt;
            turns = tt;
            shares = tt;
            sound = is_sound_lem t a (opened t a).ring (records (opened t a)) P timed.course (opened_range t a P) (timed_sound t a (opened t a).ring (records (opened t a)) P timed) (opened_stored t a P);
          };
      timed = timed;
      messaged = opened_messaged t a P;
      each = tt;
    }

pub timely : (t : Set) (a : Alloc) → Plan t a → ¬ Fddi t → (calls : List Call) → Timely t a (run_of t a calls)
timely t a P mode calls = steady_run t a P (Timely t a) (steady t a P) (opened t a) (timely_opened t a P mode) calls
