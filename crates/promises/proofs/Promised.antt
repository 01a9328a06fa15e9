-- The promises, read off what every run keeps.
use Prim.Native.Nat.{ℕ, ◌+◌, ◌≤◌, ◌<◌}
use mathlib.Core.Path.{◌≡◌, sym, ap, ◌∙◌}
use mathlib.Core.Bool.{true}
use mathlib.Core.List.{List, []}
use mathlib.Core.Logic.{◌≢◌, ◌↔◌, ⊎_elim}
use native.Mathlib.Omega.{arith}
use Rattle.units.specs.Numbers.{most_clock}
use Rattle.units.specs.Places.{at}
use Rattle.units.proofs.SmallLaws.{below_or_not}
use Rattle.sets.specs.declared.Set.{Set}
use Rattle.plans.specs.Rules.{Retired}
use Rattle.plans.specs.Planned.{judged_plan, planned}
use Rattle.plans.specs.declared.Alloc.{Alloc}
use Rattle.plans.proofs.Promised.{promised as plans-promised}
use Rattle.field_reader.specs.Scanned.{scanned}
use Rattle.sheets.specs.Reading.{set_in, alloc_in, judged_sheet, read_number, read_sheet, read_plan, read_request}
use Rattle.sheets.proofs.ReadLaws.{then_none, read_accepted, read_number_lem}
use Rattle.rings.specs.Opening.{opened_ring, opening_number, opening}
use Rattle.rings.specs.Timers.{Fddi}
use Rattle.rings.proofs.TimerLaws.{fddi_or_not}
use Rattle.rings.specs.Steps.{Ask, visit_number, visited}
use Rattle.rings.specs.State.{Unmarked}
use Rattle.rings.specs.HandingIn.{LengthAllowed, handed_in}
use Rattle.rings.proofs.RingLaws.{opened_number, opened_accepted, sound_sentences}
use Rattle.rings.specs.declared.Opened.{Opened}
use Rattle.ring_rules.specs.Promised.{Fresh}
use Rattle.ring_rules.proofs.Promised.{promised as rules}
use Rattle.rings.specs.declared.Message.{Message}
use Rattle.rings.specs.declared.VisitRecord.{VisitRecord}
use Rattle.promises.specs.Run.{Call, Run, run, run_of, ring_of, records, messages, events_of, records_of, messages_of}
use Rattle.promises.specs.History.{Each}
use Rattle.promises.specs.Facts.{timing, Leaving}
use Rattle.promises.specs.Valid.{AheadOf, Regular, FinishesInTime, due_by, NeverLate, ExactLimits, DeadlinesKept, TimelyKept, Valid}
use Rattle.promises.specs.Promised.{Promised}
use Rattle.promises.proofs.Lists.{each_visit_of, each_record_of}
use Rattle.promises.proofs.Windows.{look_back, look_back_all, look_back_less}
use Rattle.promises.proofs.Course.{Plan, Unvisited, Since, same_or_not}
use Rattle.promises.proofs.Stores.{Latest, Never}
use Rattle.promises.proofs.Arrivals.{outside_all}
use Rattle.promises.proofs.Timing.{latest_within}
use Rattle.promises.proofs.Messages.{Waiting, deadline_at, clock_ahead, held_in_time, completed_in_time}
use Rattle.promises.proofs.Steps.{visit_facts, message_facts as handing-facts, mark_facts, unmark_facts}
use Rattle.promises.proofs.Opening.{plan_of_lem}
use Rattle.promises.proofs.Runs.{made, moved_run, Completes, visit_goes, visit_stops, course_facts, message_parts, message_facts, message_number_lem}
use Rattle.promises.proofs.Timely.{TimelyVisit, Timely, timer_facts, margin_made, window_kept, tick_limit, steady, timely}
use Rattle.promises.proofs.Fddi.{Older, older_steady, older, fddi_kept}
use Rattle.promises.proofs.Followed.{Follows, followed_from}
use Rattle.promises.proofs.Common.{common}
use Rattle.promises.proofs.Bulk.{bulk}
use Rattle.promises.proofs.Witness.{happens}
use Rattle.promises.proofs.FddiWitness.{fddi_happens}
use Rattle.promises.proofs.BulkWitness.{bulk_waits}
use Rattle.promises.proofs.FrameWitness.{frames_happen}
use Rattle.promises.proofs.EarlierWitness.{earlier_happens}
use Rattle.promises.proofs.GridWitness.{grid_happens}
use Rattle.promises.proofs.MarkWitness.{marks_happen}

module _ (t : Set) (a : Alloc) (P : Plan t a) (s : Run) (K : Timely t a s) where
  -- ---- visits

  -- a message that a visit completes is finished by its deadline
  finished : (ask : Ask) → visit_number s.ring ask ≡ 0 → Completes t s ask → (made s ask).finish.0 ≤ deadline_at t s.ring s.ring.token
  finished ask go c =
      let C = course_facts t a P s K.common ask go in
      let F = timer_facts t a P s K ask go in
      let G = message_parts t a P s K.common ask go in
      let M = K.messaged s.ring.token K.common.course.token in
      completed_in_time t a s.ring (moved_run s ask).ring (made s ask) (records s) P K.timed C F G M c

  made_in_time : (ask : Ask) → visit_number s.ring ask ≡ 0 → (made s ask).completed ≡ 1 → FinishesInTime t s.ring (made s ask)
  made_in_time ask go flag =
      let r = s.ring in
      let q = (moved_run s ask).ring in
      let v = made s ask in
      let C = course_facts t a P s K.common ask go in
      let F = timer_facts t a P s K ask go in
      let G = message_parts t a P s K.common ask go in
      let M = K.messaged r.token K.common.course.token in
      ⊎_elim (λ (c : Completes t s ask).
      record {
        start = C.start;
        finish = c.finish;
        in_time = finished ask go c;
        margin = margin_made t a r q v (records s) P K.timed C F G M c;
      })
      (λ (c : Leaving r q v). absurd (omega (arith, c.flag)))
      G.completing

  finishes_in_time : (ask : Ask) → (visited s.ring ask).answer.«record».completed ≡ 1 → FinishesInTime t s.ring (visited s.ring ask).answer.«record»
  finishes_in_time ask =
      ⊎_elim (λ (go : visit_number s.ring ask ≡ 0). rw (visit_goes s.ring ask go) (made_in_time ask go))
      (λ (not : visit_number s.ring ask ≢ 0). rw (visit_stops s.ring ask not) (λ e. absurd (omega arith)))
      (same_or_not (visit_number s.ring ask) 0)

  -- ---- messages

  still_ahead : (i : ℕ) → i < t.n → 0 < at s.ring.rest i → AheadOf s.ring (at s.ring.arrival i + at t.d i)
  still_ahead i l held = omega (arith, clock_ahead t a s.ring (records s) P K.timed i l (K.messaged i l) held)

  -- the ring's own account of the station's last visit and last message is the run's
  later_than : (m : Message) → Regular t s m → m.station.0 < t.n → m.station.0 < s.ring.visits → at s.ring.last m.station.0 < m.arrival.0
  later_than m R l c =
      ⊎_elim (λ (x : Unvisited (timing s.ring) (records s) m.station.0). absurd (omega (arith, x.early)))
      (λ (x : (w : VisitRecord) × Since t (timing s.ring) (records s) m.station.0 w). omega (arith, x.1.last, R.later x.0 x.1.latest))
      (K.common.course.arrived m.station.0 l)

  gap_of : (m : Message) → Regular t s m → at s.ring.had m.station.0 ≢ 0 → at s.ring.arrival m.station.0 + at t.p m.station.0 ≤ m.arrival.0
  gap_of m R had =
      ⊎_elim (λ (x : Never s.ring (messages s) m.station.0). absurd (had x.had))
      (λ (x : (o : Message) × Latest s.ring (messages s) m.station.0 o). omega (arith, x.1.arrival, R.gap x.0 x.1.latest))
      (K.common.told m.station.0)

  -- a message that keeps P and has arrived finds its station free: the deadline of the one before would lie behind the clock
  free : (m : Message) → m.station.0 < t.n → Regular t s m → at s.ring.rest m.station.0 ≡ 0
  free m l R =
      ⊎_elim (λ (b : 0 < at s.ring.rest m.station.0).
      let w : Waiting t a s.ring m.station.0 = held_in_time t a s.ring (records s) P K.timed m.station.0 l (K.messaged m.station.0 l) b in
      absurd (omega (arith, R.arrived, gap_of m R w.had, P.gaps m.station.0 l, still_ahead m.station.0 l b)))
      (λ (b : at s.ring.rest m.station.0 ≤ 0). omega arith)
      (below_or_not 0 (at s.ring.rest m.station.0))

  -- the ring's own set is the one with which it was opened
  stations : s.ring.set.n ≡ t.n
  stations = ap (λ (x : Set). x.n) K.common.course.set

  short : (m : Message) → Regular t s m → LengthAllowed s.ring m
  short m R = rw K.common.course.set R.length

  never_11 : (m : Message) → Unmarked s.ring m.station.0 → Regular t s m → (handed_in s.ring m).number ≢ 11
  never_11 m off R e =
      let x = (rules.message_eleven s.ring m).0 e in
      x.1.1.1 (free m (omega (arith, x.1.0, stations)) R, off)

  message_is_taken : (m : Message) → m.station.0 < t.n → m.arrival.0 ≤ most_clock → Unmarked s.ring m.station.0 → Regular t s m → (handed_in s.ring m).number ≡ 0
  message_is_taken m l range off R =
      let gap : at s.ring.had m.station.0 ≢ 0 → at s.ring.arrival m.station.0 + at s.ring.set.p m.station.0 ≤ m.arrival.0 = rw K.common.course.set (gap_of m R) in
      (rules.message_none s.ring m).1 (
        sound_sentences s.ring K.common.sound,
        record {
          known = omega (arith, stations);
          length = short m R;
          free = (free m l R, off);
          arrived = R.arrived;
          arrival = record { range = range; later = later_than m R l; gap = gap };
        },
      )

-- ---- a message followed, in time

in_time : (t : Set) (a : Alloc) → Plan t a → (m : Message) → m.station.0 < t.n → Follows t m (Timely t a) (λ r. AheadOf r (due_by t m)) (λ v. v.finish.0 ≤ due_by t m)
in_time t a P m l =
    record {
      waits = λ s K h e. omega (arith, e, still_ahead t a P s K m.station.0 l h);
      ends = λ s K ask go b e c. omega (arith, e, ap (at s.ring.arrival) b, ap (at t.d) b, finished t a P s K ask go c);
    }

-- ---- the record of all of it

module _ (t : Set) (a : Alloc) (plan : Plan t a) (mode : ¬ Fddi t) where
  every : (calls : List Call) → Timely t a (run_of t a calls)
  every calls = timely t a plan mode calls

  each : {B : VisitRecord → List VisitRecord → Type 0} → ((on : ℕ) (v : VisitRecord) (before : List VisitRecord) → TimelyVisit t a (look_back t) on v before → B v before)
      → (calls : List Call) → Each B (records_of t a calls)
  each f calls = each_record_of f (events_of t a calls) (every calls).each

  never_late_kept : NeverLate t a t.head.ttrt
  never_late_kept =
      record {
        apart = λ calls. each (λ on v before k. k.apart) calls;
        since = λ calls i l u e. omega (arith, latest_within t a (timing (ring_of t a calls)) (records_of t a calls) (every calls).timed (every calls).common.turns i l u e);
      }

  limits_kept : ExactLimits t a (look_back t)
  limits_kept =
      record {
        limits = λ calls. each_visit_of {A = TimelyVisit t a (look_back t)} (λ on v before k. k.limit) (events_of t a calls) (every calls).each;
        spare = omega (arith, plan.token, plans-promised.spare_timely t (at a.s) mode);
        ticks = λ one calls. each_visit_of (λ on v before k. tick_limit t a (look_back t) one on v before k) (events_of t a calls) (every calls).each;
      }

  deadlines_kept_lem : DeadlinesKept t a
  deadlines_kept_lem =
      record {
        followed = λ calls m e later.
            let taken = sym (message_number_lem (ring_of t a calls) m) ∙ e in
            let known = (message_facts t a plan (run_of t a calls) (every calls).common m taken).known in
            followed_from t a plan (Timely t a) (steady t a plan) m (λ r. AheadOf r (due_by t m)) (λ v. v.finish.0 ≤ due_by t m) (in_time t a plan m known) (run_of t a calls) (every calls) taken later;
        ahead = λ calls. still_ahead t a plan (run_of t a calls) (every calls);
        finishes = λ calls. finishes_in_time t a plan (run_of t a calls) (every calls);
        none_late = λ calls. each (λ on v before k. k.none_late) calls;
        no_11 = λ calls. never_11 t a plan (run_of t a calls) (every calls);
        taken = λ calls. message_is_taken t a plan (run_of t a calls) (every calls);
      }

  timely_kept : TimelyKept t a (look_back t)
  timely_kept =
      record {
        never_late = never_late_kept;
        timers = λ calls. each (λ on v before k. k.timer) calls;
        limits = limits_kept;
        windows = λ calls. each (λ on v before k. window_kept t a plan on v before k) calls;
        deadlines = deadlines_kept_lem;
      }

valid : (t : Set) (a : Alloc) → judged_plan t a ≡ 0 → Valid t a
valid t a h =
    let plan = plan_of_lem t a h in
    record {
      common =
          ⊎_elim (λ (mode : Fddi t). common t a plan (Older t a) (older_steady t a plan) (older t a plan mode))
          (λ (mode : ¬ Fddi t). common t a plan (Timely t a) (steady t a plan) (timely t a plan mode))
          (fddi_or_not t);
      timely = λ m. rw (look_back_all t m) at (timely_kept t a plan (λ e. omega arith));
      fddi = fddi_kept t a plan;
      earlier = λ m. rw (look_back_less t m) at (timely_kept t a plan (λ e. omega arith));
      own_part = λ m calls. outside_all t m (ring_of t a calls) (records_of t a calls) (messages_of t a calls) (timely t a plan (λ e. omega arith) calls).common.passed.messages;
    }

-- ---- where plans come from

begins : (t : Set) (a : Alloc) → judged_plan t a ≡ 0 → Fresh t a (run_of t a []).ring
unfolding run
begins = rules.opened_fresh

opens : (t : Set) (a : Alloc) → ((opening t a).number ≡ 0) ↔ ((judged_plan t a ≡ 0) × ¬ Retired t)
opens = rules.opening_none

opened : (t : Set) (a : Alloc) → (opening t a).number ≡ 0 → (opening t a).ring ≡ (run_of t a []).ring
unfolding run
opened t a h = ap (λ (o : Opened). o.ring) (opened_accepted (opening_number t a) (opened_ring t a) (sym (opened_number (opening_number t a) (opened_ring t a)) ∙ h))

plan_judged : (t : Set) → (planned t).number ≡ 0 → judged_plan t (planned t).alloc ≡ 0
plan_judged t h = (plans-promised.kept t h).judged

-- reading accepts a plan sheet only if its plan is judged 0
sheet_judged : (bytes : List ℕ) → (read_plan bytes).number ≡ 0 → judged_plan (read_plan bytes).set (read_plan bytes).alloc ≡ 0
unfolding read_sheet judged_sheet
sheet_judged bytes h =
    let number : read_number true bytes ≡ 0 = sym (read_number_lem (read_number true bytes) (set_in true bytes) (alloc_in true bytes)) ∙ h in
    rw (read_accepted (read_number true bytes) (set_in true bytes) (alloc_in true bytes) number)
    (then_none (scanned true bytes).number (judged_plan (set_in true bytes) (alloc_in true bytes)) number).1

pub promised : Promised
promised =
    record {
      judged = valid;
      begins = begins;
      opens = opens;
      opened = opened;
      plan_judged = plan_judged;
      plan_valid = λ t h. valid t (planned t).alloc (plan_judged t h);
      sheet_judged = sheet_judged;
      sheet_valid = λ bytes h. valid (read_plan bytes).set (read_plan bytes).alloc (sheet_judged bytes h);
      request_valid = λ bytes _ h. valid (read_request bytes).set (planned (read_request bytes).set).alloc (plan_judged (read_request bytes).set h);
      bulk = λ t a h mode left. bulk t a h mode (omega arith);
      happens = happens;
      fddi_happens = fddi_happens;
      bulk_waits = bulk_waits;
      frames_happen = frames_happen;
      earlier_happens = earlier_happens;
      grid_happens = grid_happens;
      visit_facts = visit_facts;
      message_facts = handing-facts;
      mark_facts = mark_facts;
      unmark_facts = unmark_facts;
      marks_happen = marks_happen;
    }
