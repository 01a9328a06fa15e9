-- What every visit of a timely-token ring keeps of the token's timing, in both editions, proved of the visit's facts alone. Each TRT is read off prefix sums of w and s and a window of asynchronous time, so that nothing but sums has to be compared.
-- In the 2002 edition that window is one visit shorter: a station's own asynchronous part is over when its timer goes to 0.
use Prim.Native.Nat.{ℕ, ◌+◌, ◌-◌, ◌≤◌, ◌<◌}
use mathlib.Core.Path.{◌≡◌, sym, ap, ◌∙◌}
use mathlib.Core.List.{List, ◌∷◌}
use mathlib.Core.Logic.{inl, inr, ◌≢◌, ⊎_elim}
use mathlib.Core.Option.{none, some}
use native.Mathlib.Omega.{arith}
use Rattle.units.specs.Places.{at, sum_below}
use Rattle.units.proofs.PlaceLaws.{sum_step, sum_none, sum_part_lem, sum_mono}
use Rattle.units.proofs.SmallLaws.{below_or_not}
use Rattle.sets.specs.Rules.{tau}
use Rattle.sets.specs.declared.Set.{Set}
use Rattle.plans.specs.declared.Alloc.{Alloc}
use Rattle.rings.specs.Timers.{Fddi, lead, silent_trt}
use Rattle.rings.proofs.TimerLaws.{lead_within}
use Rattle.rings.specs.declared.VisitRecord.{VisitRecord}
use Rattle.promises.specs.History.{async_of, sync_start_of, latest_of, Each}
use Rattle.promises.specs.Facts.{Timing, VisitCourse, VisitTimers, rises}
use Rattle.promises.specs.Valid.{InTurn}
use Rattle.promises.proofs.Sums.{sum_grows, sum_changed, sum_kept, sum_between}
use Rattle.promises.proofs.Windows.{own, look_back, async_grows, async_shorter, async_own, async_moves}
use Rattle.promises.proofs.Course.{Plan, Course, ToNext, ToFirst, following_is, same_or_not, at_token, latest_own, latest_other, course_kept}
use Rattle.promises.proofs.Turns.{Ago, own_left}

-- ---- what is kept

-- what the token has walked and the stations have sent before station k, in ring order
abbrev pub before : Set → Timing → ℕ → ℕ
before t r k = sum_below k (at t.w) + sum_below k (at r.sent)

-- the timer of a station that the token has passed in this rotation
abbrev pub PassedTimer : Set → Timing → List VisitRecord → ℕ → Type 0
PassedTimer t r h i = at r.trt i + before t r i ≡ async_of (r.token - i - own t) h + before t r r.token

-- the timer of a station to which it comes
abbrev pub ComingTimer : Set → Timing → List VisitRecord → ℕ → Type 0
ComingTimer t r h i =
    at r.trt i + before t r i ≡ async_of (r.token + t.n - i - own t) h + before t r r.token + before t r t.n

pub record Timed (t : Set) (a : Alloc) (r : Timing) (h : List VisitRecord) : Type 0 where
  pub mode : ¬ Fddi t
  pub course : Course t a r h
  pub unused : r.unused + sum_below t.n (at r.sent) ≡ sum_below t.n (at a.s)
  pub passed : (i : ℕ) → i < r.token → PassedTimer t r h i
  pub coming : (i : ℕ) → i < t.n → r.token ≤ i → ComingTimer t r h i
  -- the asynchronous time of the latest N visits is within A* + (F − 1)
  pub window : async_of t.n h + sum_below t.n (at a.s) + tau t ≤ t.head.ttrt
  -- TRT runs since the silent rotation, or since the start of the station's latest synchronous part
  pub silent : (i : ℕ) → i < t.n → latest_of i h ≡ none → at r.trt i ≡ r.clock + silent_trt t i
  pub since : (i : ℕ) → i < t.n → (u : VisitRecord) → latest_of i h ≡ some u → sync_start_of t u + at r.trt i ≡ r.clock

-- ---- the two readings of the timers

module _ (t : Set) (a : Alloc) (r : Timing) (h : List VisitRecord) (T : Timed t a r h) where
  -- where the token is, u and TRT together are the window, the shares and the walk
  pub token_timer : r.unused + at r.trt r.token ≡ async_of (look_back t) h + sum_below t.n (at a.s) + tau t
  token_timer =
      let d : r.token + t.n - r.token ≡ t.n = omega arith in
      let e = rw d at (T.coming r.token T.course.token (omega arith)) in
      omega arith

  -- so much asynchronous time of station i is in a window of all the visits since its turn, and not in its timer's
  abbrev Missed : ℕ → ℕ → Type 0
  Missed i y = (e : ℕ) → 1 ≤ e → e ≤ t.n → Ago t.n i e h → y + async_of (e - own t) h ≤ async_of e h

  -- the token is never late, not even where the station has not sent all of S
  late_by : (i y : ℕ) → i < t.n → Missed i y → at r.trt i + y + at a.s i ≤ t.head.ttrt + at r.sent i
  late_by i y l missed =
      let token = T.course.token in
      ⊎_elim (λ (b : i < r.token).
      let more = missed (r.token - i) (omega arith) (omega arith) (inl (omega (arith, T.course.turn))) in
      let window = async_grows (r.token - i) t.n h (omega arith) in
      let walk = sum_grows t.n r.token (at t.w) (omega arith) in
      let shares = sum_grows t.n r.token (at a.s) (omega arith) in
      let mine = sum_between r.token i (at r.sent) (at a.s) b (λ j m. T.course.sents j (omega arith)) in
      omega (arith, T.passed i b))
      (λ (b : r.token ≤ i).
      let more = missed (r.token + t.n - i) (omega arith) (omega arith) (inr (omega (arith, T.course.turn))) in
      let window = async_grows (r.token + t.n - i) t.n h (omega arith) in
      let walk = sum_grows i r.token (at t.w) b in
      let sent = sum_grows i r.token (at r.sent) b in
      let shares = sum_mono i (at r.sent) (at a.s) (λ j m. T.course.sents j (omega arith)) in
      let mine = sum_between t.n i (at r.sent) (at a.s) l (λ j m. T.course.sents j m) in
      omega (arith, T.coming i l b))
      (below_or_not i r.token)

  pub never_late : (i : ℕ) → i < t.n → at r.trt i + at a.s i ≤ t.head.ttrt + at r.sent i
  never_late i l = omega (arith, late_by i 0 l (λ e low high ago. omega (arith, async_grows (e - own t) e h (omega arith))))

  -- so a station's latest visit started at most TTRT ago
  pub latest_within : Each (InTurn t) h → (i : ℕ) → i < t.n → (u : VisitRecord) → latest_of i h ≡ some u → r.clock ≤ u.start.0 + t.head.ttrt
  latest_within E i l u e =
      omega (arith, T.since i l u e, late_by i (lead t u.asynchronous.0) l (own_left t i l h E u e), T.course.sents i l)

-- ---- one visit more

module _ (t : Set) (a : Alloc) (r q : Timing) (v : VisitRecord) (h : List VisitRecord) (P : Plan t a) (T : Timed t a r h) (C : VisitCourse t a r q v) (F : VisitTimers t r q v) where
  walk : at t.w v.station.0 ≡ at t.w r.token
  walk = at_token t a r q v h P T.course C

  -- the asynchronous part leaves room in the window
  pub room : v.asynchronous.0 + async_of (look_back t) h + sum_below t.n (at a.s) + tau t ≤ t.head.ttrt
  room =
      let window = async_grows (look_back t) t.n h (omega arith) in
      omega (arith, token_timer t a r h T, T.window, F.room (omega (arith, token_timer t a r h T, T.window)))

  -- where the synchronous part starts the token is not late either: what came before it left room for u
  pub not_late_here : at r.trt r.token + lead t v.asynchronous.0 + at a.s r.token ≤ t.head.ttrt + at r.sent r.token
  not_late_here =
      let token = T.course.token in
      let mine = sum_between t.n r.token (at r.sent) (at a.s) token (λ j m. T.course.sents j m) in
      let before = sum_mono r.token (at r.sent) (at a.s) (λ j m. T.course.sents j (omega arith)) in
      omega (arith, T.unused, lead_within t v.asynchronous.0, room, token_timer t a r h T)

  -- a visit takes at most TTRT
  pub rise_small : rises t v ≤ t.head.ttrt
  rise_small = omega (arith, room, walk, C.within, sum_part_lem t.n (at a.s) r.token T.course.token, sum_part_lem t.n (at t.w) r.token T.course.token)

  -- the prefix sums of s
  sent_kept : (k : ℕ) → k ≤ r.token → sum_below k (at q.sent) ≡ sum_below k (at r.sent)
  sent_kept k l = sum_kept k r.token (at r.sent) (at q.sent) l C.sent_there

  sent_changed : (k : ℕ) → r.token < k → sum_below k (at q.sent) + at r.sent r.token ≡ sum_below k (at r.sent) + v.synchronous.0
  sent_changed k l = sum_changed k r.token (at r.sent) (at q.sent) l C.sent_there ∙ ap (λ (z : ℕ). sum_below k (at r.sent) + z) C.sent_here

  -- what is walked and sent up to the token's station rises by this visit's walk and synchronous part
  before_more : before t q (r.token + 1) ≡ before t r r.token + at t.w v.station.0 + v.synchronous.0
  before_more =
      let walked = sum_step r.token (at t.w) in
      let sent = sum_step r.token (at r.sent) in
      omega (arith, walk, sent_changed (r.token + 1) (omega arith))

  -- the timer of a station up to the token's, as the token has now passed it
  timer_passed : (i : ℕ) → i ≤ r.token → at q.trt i + before t q i ≡ async_of (r.token + 1 - i - own t) (v ∷ h) + before t q (r.token + 1)
  timer_passed i l =
      ⊎_elim (λ (b : i < r.token).
      let trt = F.trt_there i (omega (arith, T.course.token)) (omega arith) in
      let d : r.token + 1 - i ≡ r.token - i + 1 = omega arith in
      rw (d, async_shorter t (r.token - i) v h (omega arith)) (omega (arith, T.passed i b, sent_kept i l, before_more)))
      (λ (b : r.token ≤ i).
      let e : i ≡ r.token = omega arith in
      let d : r.token + 1 - r.token ≡ 1 = omega arith in
      rw (e, d) (omega (arith, async_own t v h, F.trt_here, sent_kept r.token (omega arith), before_more)))
      (below_or_not i r.token)

  -- and of a station past it
  timer_coming : (i : ℕ) → i < t.n → r.token < i
      → at q.trt i + before t q i ≡ async_of (r.token + 1 + t.n - i - own t) (v ∷ h) + before t q (r.token + 1) + before t q t.n
  timer_coming i l b =
      let trt = F.trt_there i l (omega arith) in
      let d : r.token + 1 + t.n - i ≡ r.token + t.n - i + 1 = omega arith in
      rw (d, async_shorter t (r.token + t.n - i) v h (omega arith))
      (omega (arith, T.coming i l (omega arith), sent_changed i b, sent_changed t.n T.course.token, before_more))

  -- ---- where the token goes on to the next station

  next_passed : q.token ≡ r.token + 1 → (i : ℕ) → i < q.token → PassedTimer t q (v ∷ h) i
  next_passed e i l = rw e (timer_passed i (omega arith))

  next_coming : q.token ≡ r.token + 1 → (i : ℕ) → i < t.n → q.token ≤ i → ComingTimer t q (v ∷ h) i
  next_coming e i l b = rw e (timer_coming i l (omega arith))

  -- ---- where it goes on to station 0

  wrap_coming : r.token + 1 ≡ t.n → q.token ≡ 0 → (i : ℕ) → i < t.n → ComingTimer t q (v ∷ h) i
  wrap_coming last e i l =
      let d : 0 + t.n - i - own t ≡ r.token + 1 - i - own t = omega arith in
      rw (e, d) (omega (arith, timer_passed i (omega arith), ap (before t q) last, sum_none (at t.w), sum_none (at q.sent)))

  -- ---- either way

  silent_kept : (i : ℕ) → i < t.n → latest_of i (v ∷ h) ≡ none → at q.trt i ≡ q.clock + silent_trt t i
  silent_kept i l e =
      ⊎_elim (λ (b : i ≡ r.token). let z : ◌≡◌ {A = ℕ} 0 1 = cc (latest_own t a r q v h P T.course C, rw b at e) in absurd (omega arith))
      (λ (b : i ≢ r.token).
      omega (arith, F.trt_there i l b, C.clock, T.silent i l (sym (latest_other t a r q v h P T.course C i b) ∙ e)))
      (same_or_not i r.token)

  since_kept : (i : ℕ) → i < t.n → (u : VisitRecord) → latest_of i (v ∷ h) ≡ some u → sync_start_of t u + at q.trt i ≡ q.clock
  since_kept i l u e =
      ⊎_elim (λ (b : i ≡ r.token).
      let same : v ≡ u = cc (latest_own t a r q v h P T.course C, rw b at e) in
      let start : sync_start_of t u ≡ sync_start_of t v = ap (sync_start_of t) (sym same) in
      rw b (omega (arith, F.trt_here, C.clock, C.start)))
      (λ (b : i ≢ r.token).
      omega (arith, F.trt_there i l b, C.clock, T.since i l u (sym (latest_other t a r q v h P T.course C i b) ∙ e)))
      (same_or_not i r.token)

  -- what is left once the token's place is known
  kept_with_lem : ((i : ℕ) → i < q.token → PassedTimer t q (v ∷ h) i) → ((i : ℕ) → i < t.n → q.token ≤ i → ComingTimer t q (v ∷ h) i) → Timed t a q (v ∷ h)
  kept_with_lem passed coming =
      record {
        mode = T.mode;
        course = course_kept t a r q v h P T.course C;
        unused = omega (arith, F.unused, T.unused, sent_changed t.n T.course.token);
        passed = passed;
        coming = coming;
        window = omega (arith, room, async_moves t v h P.some);
        silent = silent_kept;
        since = since_kept;
      }

  pub timed_kept : Timed t a q (v ∷ h)
  timed_kept =
      ⊎_elim (λ (b : ToNext t.n r.token).
      let e : q.token ≡ r.token + 1 = C.token ∙ b.1 in
      kept_with_lem (next_passed e) (next_coming e))
      (λ (b : ToFirst t.n r.token).
      let e : q.token ≡ 0 = C.token ∙ b.1 in
      kept_with_lem (λ i l. absurd (omega arith)) (λ i l _. wrap_coming b.0 e i l))
      (following_is t.n r.token T.course.token)
