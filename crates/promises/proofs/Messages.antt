-- What every visit and every handing in keep of the messages of a timely-token ring, in both editions, proved of the facts alone: each held message is in time, and a station that holds none ended its last synchronous part by the deadline of its last message.
use Prim.Native.Nat.{ℕ, ◌+◌, ◌≤◌, ◌<◌}
use mathlib.Core.Path.{◌≡◌, ap, ◌∙◌}
use mathlib.Core.List.{List}
use mathlib.Core.Logic.{◌⊎◌, inl, inr, ◌≢◌, ⊎_elim}
use native.Mathlib.Omega.{arith}
use Rattle.units.specs.Places.{at}
use Rattle.units.proofs.PlaceLaws.{sum_part_lem}
use Rattle.units.proofs.SmallLaws.{below_or_not}
use Rattle.sets.specs.declared.Set.{Set}
use Rattle.plans.specs.Rules.{least_time}
use Rattle.plans.specs.declared.Alloc.{Alloc}
use Rattle.rings.specs.Timers.{lead}
use Rattle.rings.specs.declared.Ring.{Ring}
use Rattle.rings.specs.declared.Message.{Message}
use Rattle.rings.specs.declared.VisitRecord.{VisitRecord}
use Rattle.promises.specs.History.{sync_start_of}
use Rattle.promises.specs.Facts.{Timing, timing, VisitCourse, VisitTimers, VisitMessages, Sending, Silent, Completing, Accepting, Switching, rises}
use Rattle.promises.proofs.Course.{Plan, Unvisited, Since, same_or_not}
use Rattle.promises.proofs.Deadlines.{InTime, in_time, ended_in_time, served_in_time, fresh_in_time, later_in_time}
use Rattle.promises.proofs.Timing.{Timed, never_late, not_late_here}

-- the deadline of the message that station i holds, or held last
abbrev pub deadline_at : Set → Ring → ℕ → ℕ
deadline_at t r i = at r.arrival i + at t.d i

-- station i holds none: if it sent something at its last visit, that ended by the deadline
pub record Idle (t : Set) (r : Ring) (i : ℕ) : Type 0 where
  pub none : at r.rest i ≡ 0
  pub ended : (at r.sent i ≡ 0) ⊎ ((at r.had i ≢ 0) × (r.clock + at r.sent i ≤ deadline_at t r i + at r.trt i))

-- station i holds a message, which is in time
pub record Waiting (t : Set) (a : Alloc) (r : Ring) (i : ℕ) : Type 0 where
  pub held : 0 < at r.rest i
  pub had : at r.had i ≢ 0
  pub intime : InTime t.head.ttrt (at a.s i) r.clock (at r.trt i) (at r.sent i) (at r.rest i) (deadline_at t r i)

abbrev pub Messaged : Set → Alloc → Ring → ℕ → Type 0
Messaged t a r i = Idle t r i ⊎ Waiting t a r i

-- ---- while a message is held

module _ (t : Set) (a : Alloc) (r : Ring) (h : List VisitRecord) (P : Plan t a) (T : Timed t a (timing r) h) where
  -- S is at most TTRT
  pub share_small : (i : ℕ) → i < t.n → at a.s i ≤ t.head.ttrt
  share_small i l = omega (arith, sum_part_lem t.n (at a.s) i l, P.token)

  -- what is at most C is at most X
  within_c : (i : ℕ) → i < t.n → (x : ℕ) → x ≤ at t.c i → x ≤ least_time t.head.ttrt (at t.d i) (at a.s i)
  within_c i l x small = omega (arith, P.deadlines T.mode i l)

  -- looked at x ticks from now on, the token is not late
  abbrev pub NotLate : ℕ → ℕ → Type 0
  NotLate i x = at r.trt i + x + at a.s i ≤ t.head.ttrt + at r.sent i

  -- then a held message can still be sent by its deadline
  pub still_in_time : (i x : ℕ) → i < t.n → NotLate i x → Waiting t a r i → r.clock + x + at r.rest i ≤ deadline_at t r i
  still_in_time i x l soon w = in_time (share_small i l) w.held x soon w.intime

  pub held_in_time : (i : ℕ) → i < t.n → Messaged t a r i → 0 < at r.rest i → Waiting t a r i
  held_in_time i l M held = ⊎_elim (λ (x : Idle t r i). absurd (omega arith)) (λ (w : Waiting t a r i). w) M

  pub clock_ahead : (i : ℕ) → i < t.n → Messaged t a r i → 0 < at r.rest i → r.clock + at r.rest i ≤ deadline_at t r i
  clock_ahead i l M held =
      omega (arith, still_in_time i 0 l (omega (arith, never_late t a (timing r) h T i l)) (held_in_time i l M held))

-- ---- one visit more

module _ (t : Set) (a : Alloc) (r q : Ring) (v : VisitRecord) (h : List VisitRecord) (P : Plan t a) (T : Timed t a (timing r) h)
    (C : VisitCourse t a (timing r) (timing q) v) (F : VisitTimers t (timing r) (timing q) v) (G : VisitMessages t a r q v) where
  -- at another station nothing changes but clock and TRT
  other_kept : (i : ℕ) → i < t.n → i ≢ r.token → Messaged t a r i → Messaged t a q i
  other_kept i l b M =
      ⊎_elim (λ (x : Idle t r i).
      inl
      (record {
        none = G.rest_there i b ∙ x.none;
        ended =
            ⊎_elim (λ (z : at r.sent i ≡ 0). inl (C.sent_there i b ∙ z))
            (λ (z : (at r.had i ≢ 0) × (r.clock + at r.sent i ≤ deadline_at t r i + at r.trt i)).
            inr (rw G.had z.0, rw (C.sent_there i b, F.trt_there i l b, G.arrival, C.clock) (omega arith)))
            x.ended;
      }))
      (λ (w : Waiting t a r i).
      inr
      (record {
        held = rw (G.rest_there i b) w.held;
        had = rw G.had w.had;
        intime =
            rw (C.sent_there i b, F.trt_there i l b, G.rest_there i b, G.arrival, C.clock)
            (later_in_time (rises t v) w.intime);
      }))
      M

  -- so what it holds can then be sent by its deadline
  begun_in_time : Waiting t a r r.token → r.clock + lead t v.asynchronous.0 + at r.rest r.token ≤ deadline_at t r r.token
  begun_in_time w = still_in_time t a r h P T r.token (lead t v.asynchronous.0) T.course.token (not_late_here t a (timing r) (timing q) v h P T C F) w

  -- the station that is visited sends nothing: it holds none, since one that it held would have arrived
  silent_kept : at r.arrival r.token ≤ r.clock → Silent r (sync_start_of t v) v → Idle t q r.token ⊎ Waiting t a q r.token
  silent_kept come s =
      let none : at r.rest r.token ≡ 0 = ⊎_elim (λ z. z) (λ (late : sync_start_of t v < at r.arrival r.token). absurd (omega (arith, C.start))) s.reason in
      inl (record { none = omega (arith, G.rest_here); ended = inl (C.sent_here ∙ s.nothing) })

  -- it sends of its message
  sending_kept : Messaged t a r r.token → Sending a r (sync_start_of t v) v → Idle t q r.token ⊎ Waiting t a q r.token
  sending_kept M s =
      let w : Waiting t a r r.token = held_in_time t a r h P T r.token T.course.token M s.held in
      ⊎_elim (λ (b : at a.s r.token < at r.rest r.token).
      let whole : v.synchronous.0 ≡ at a.s r.token = omega (arith, s.amount) in
      let parts : at q.rest r.token + at a.s r.token ≡ at r.rest r.token = omega (arith, G.rest_here) in
      let now : r.clock + lead t v.asynchronous.0 + at q.trt r.token ≡ q.clock = omega (arith, C.clock, F.trt_here) in
      let share = share_small t a r h P T r.token T.course.token in
      let next = rw now at (served_in_time share s.held (lead t v.asynchronous.0) (at q.trt r.token) (at q.rest r.token) (not_late_here t a (timing r) (timing q) v h P T C F) parts w.intime) in
      inr
      (record {
        held = omega (arith, G.rest_here);
        had = rw G.had w.had;
        intime = rw (C.sent_here, whole, G.arrival) next;
      }))
      (λ (b : at r.rest r.token ≤ at a.s r.token).
      let whole : v.synchronous.0 ≡ at r.rest r.token = omega (arith, s.amount) in
      inl
      (record {
        none = omega (arith, G.rest_here);
        ended = inr (rw G.had w.had, rw (C.sent_here, G.arrival) (omega (arith, C.clock, F.trt_here, begun_in_time w)));
      }))
      (below_or_not (at a.s r.token) (at r.rest r.token))

  here_kept : at r.arrival r.token ≤ r.clock → Messaged t a r r.token → Messaged t a q r.token
  here_kept come M = ⊎_elim (sending_kept M) (silent_kept come) G.sending

  pub messaged_kept : at r.arrival r.token ≤ r.clock → ((i : ℕ) → i < t.n → Messaged t a r i) → (i : ℕ) → i < t.n → Messaged t a q i
  messaged_kept come M i l =
      ⊎_elim (λ (b : i ≡ r.token). rw b (here_kept come (M r.token T.course.token)))
      (λ (b : i ≢ r.token). other_kept i l b (M i l))
      (same_or_not i r.token)

  -- a message that this visit completes is finished by its deadline
  pub completed_in_time : Messaged t a r r.token → Completing t r q (sync_start_of t v) v → v.finish.0 ≤ deadline_at t r r.token
  completed_in_time M c = omega (arith, C.start, c.finish, G.rest_here, c.over, begun_in_time (held_in_time t a r h P T r.token T.course.token M c.held))

-- ---- one handing in more

module _ (t : Set) (a : Alloc) (r q : Ring) (m : Message) (h : List VisitRecord) (P : Plan t a) (T : Timed t a (timing r) h) (A : Accepting t r q m) where
  sent_same : q.sent ≡ r.sent
  sent_same = ap (λ (x : Timing). x.sent) A.timing_same

  trt_same : q.trt ≡ r.trt
  trt_same = ap (λ (x : Timing). x.trt) A.timing_same

  clock_same : q.clock ≡ r.clock
  clock_same = ap (λ (x : Timing). x.clock) A.timing_same

  -- a station that sent nothing at its last visit ended its synchronous part at that visit's start, or before the first visit
  quiet : at r.sent m.station.0 ≡ 0 → r.clock + at r.sent m.station.0 ≤ m.arrival.0 + at r.trt m.station.0
  quiet z =
      ⊎_elim (λ (u : Unvisited (timing r) h m.station.0). omega (arith, T.silent m.station.0 A.known u.latest))
      (λ (u : (w : VisitRecord) × Since t (timing r) h m.station.0 w).
      omega (arith, T.since m.station.0 A.known u.0 u.1.latest, u.1.last, A.later u.1.counted))
      (T.course.arrived m.station.0 A.known)

  -- the station's last synchronous part ended by the arrival: at the start of its last visit, or by the deadline of the message before, which is at most P after that one's arrival
  ended_before : Messaged t a r m.station.0 → r.clock + at r.sent m.station.0 ≤ m.arrival.0 + at r.trt m.station.0
  ended_before M =
      ⊎_elim (λ (x : Idle t r m.station.0).
      ⊎_elim quiet
      (λ (z : (at r.had m.station.0 ≢ 0) × (r.clock + at r.sent m.station.0 ≤ deadline_at t r m.station.0 + at r.trt m.station.0)).
      omega (arith, A.gap z.0, P.gaps m.station.0 A.known))
      x.ended)
      (λ (w : Waiting t a r m.station.0). absurd (omega (arith, A.free, w.held)))
      M

  taken_here : Messaged t a r m.station.0 → Messaged t a q m.station.0
  taken_here M =
      let fits = within_c t a r h P T m.station.0 A.known m.length.0 A.length.1 in
      inr
      (record {
        held = rw A.rest_here A.length.0;
        had = A.had_here;
        intime =
            rw (sent_same, trt_same, clock_same, A.rest_here, A.arrival_here)
            (fresh_in_time m.arrival.0 (at t.d m.station.0) fits (ended_before M));
      })

  taken_there : (i : ℕ) → i ≢ m.station.0 → Messaged t a r i → Messaged t a q i
  taken_there i b M =
      ⊎_elim (λ (x : Idle t r i).
      inl
      (record {
        none = A.rest_there i b ∙ x.none;
        ended = rw (sent_same, trt_same, clock_same, A.had_there i b, A.arrival_there i b) x.ended;
      }))
      (λ (w : Waiting t a r i).
      inr
      (record {
        held = rw (A.rest_there i b) w.held;
        had = rw (A.had_there i b) w.had;
        intime = rw (sent_same, trt_same, clock_same, A.rest_there i b, A.arrival_there i b) w.intime;
      }))
      M

  pub messaged_taken : ((i : ℕ) → i < t.n → Messaged t a r i) → (i : ℕ) → i < t.n → Messaged t a q i
  messaged_taken M i l =
      ⊎_elim (λ (b : i ≡ m.station.0). rw b (taken_here (M m.station.0 A.known)))
      (λ (b : i ≢ m.station.0). taken_there i b (M i l))
      (same_or_not i m.station.0)

-- ---- a mark set or taken off: what a station holds stays in time, or it holds nothing any more

module _ (t : Set) (a : Alloc) (r q : Ring) (h : List VisitRecord) (P : Plan t a) (T : Timed t a (timing r) h) (W : Switching r q) where
  sent_stays : q.sent ≡ r.sent
  sent_stays = ap (λ (x : Timing). x.sent) W.timing_same

  trt_stays : q.trt ≡ r.trt
  trt_stays = ap (λ (x : Timing). x.trt) W.timing_same

  clock_stays : q.clock ≡ r.clock
  clock_stays = ap (λ (x : Timing). x.clock) W.timing_same

  stays_in_time : (i : ℕ) → at q.rest i ≡ at r.rest i → Messaged t a r i → Messaged t a q i
  stays_in_time i e M =
      ⊎_elim (λ (x : Idle t r i). inl (record { none = e ∙ x.none; ended = rw (sent_stays, trt_stays, clock_stays, W.had, W.arrival) x.ended }))
      (λ (w : Waiting t a r i).
      inr
      (record {
        held = rw e w.held;
        had = rw W.had w.had;
        intime = rw (sent_stays, trt_stays, clock_stays, e, W.arrival) w.intime;
      }))
      M

  taken_back_lem : (i : ℕ) → i < t.n → at q.rest i ≡ 0 → Messaged t a r i → Messaged t a q i
  taken_back_lem i l e M =
      ⊎_elim (λ (x : Idle t r i). inl (record { none = e; ended = rw (sent_stays, trt_stays, clock_stays, W.had, W.arrival) x.ended }))
      (λ (w : Waiting t a r i).
      inl
      (record {
        none = e;
        ended = inr (rw W.had w.had, rw (sent_stays, trt_stays, clock_stays, W.arrival) (ended_in_time (share_small t a r h P T i l) w.intime));
      }))
      M

  pub messaged_switched : ((i : ℕ) → i < t.n → Messaged t a r i) → (i : ℕ) → i < t.n → Messaged t a q i
  messaged_switched M i l =
      ⊎_elim (λ (e : at q.rest i ≡ at r.rest i). stays_in_time i e (M i l)) (λ (e : at q.rest i ≡ 0). taken_back_lem i l e (M i l)) (W.rest i)
