-- What every visit of an FDDI ring keeps of its timers, proved of the visit's facts alone: `fddi_timer_rules` has it of plain numbers, and here it is put to the stations of a ring and to the records.
use Prim.Native.Nat.{ℕ, ◌+◌, ◌*◌, ◌≤◌, ◌<◌}
use mathlib.Core.Path.{◌≡◌, refl, sym, ap, ◌∙◌}
use mathlib.Core.List.{List, ◌∷◌}
use mathlib.Core.Logic.{◌≢◌, ⊎_elim}
use mathlib.Core.Option.{none, some}
use native.Mathlib.Omega.{arith}
use Rattle.units.specs.Places.{at}
use Rattle.units.proofs.PlaceLaws.{sum_part_lem}
use Rattle.sets.specs.declared.Set.{Set}
use Rattle.plans.specs.declared.Alloc.{Alloc}
use Rattle.fddi_timer_rules.specs.Kept.{TokenRule, Kept, Since as NumbersSince}
use Rattle.fddi_timer_rules.proofs.Promised.{promised as timers-promised}
use Rattle.rings.specs.State.{timers_of}
use Rattle.rings.specs.Timers.{Fddi, lead, timer_of, has_run, silent_trt}
use Rattle.rings.proofs.TimerLaws.{lead_none}
use Rattle.rings.specs.declared.VisitRecord.{VisitRecord}
use Rattle.promises.specs.History.{overrun_of, sync_start_of, latest_of}
use Rattle.promises.specs.Facts.{Timing, VisitCourse, VisitLaps, timer_plan, rises}
use Rattle.promises.specs.Valid.{all_shares}
use Rattle.promises.proofs.Course.{Plan, Course, Unvisited, Since, ToNext, ToFirst, following_is, same_or_not, latest_own, latest_other, course_kept}

-- ---- what is kept

pub record Lapped (t : Set) (a : Alloc) (r : Timing) (h : List VisitRecord) : Type 0 where
  pub mode : Fddi t
  pub course : Course t a r h
  pub below : (i : ℕ) → i < t.n → at r.trt i < t.head.ttrt
  -- the stations' numbers are as `fddi_timer_rules` keeps them
  pub kept : Kept (timer_plan t a) (has_run t (timers_of r)) r.token
  -- before a station's first visit its number is the time since the silent rotation passed it
  pub silent : (i : ℕ) → i < t.n → latest_of i h ≡ none → has_run t (timers_of r) i ≡ silent_trt t i + r.clock
  -- and the clock is at most so much after the station's last start
  pub since : NumbersSince (timer_plan t a) (has_run t (timers_of r)) (at r.last) r.clock

-- an FDDI visit begins with its synchronous part
first : (t : Set) → Fddi t → (async : ℕ) → lead t async ≡ 0
first t m async = lead_none t (λ e. omega arith) async

-- the token rule, as `fddi_timer_rules` has it
token_rule : (t : Set) (a : Alloc) → Plan t a → TokenRule (timer_plan t a)
token_rule t a P = omega (arith, P.token)

module _ (t : Set) (a : Alloc) (r : Timing) (h : List VisitRecord) (P : Plan t a) (T : Lapped t a r h) where
  -- no timer has run longer than TTRT + the sum of S + (F − 1)
  pub run_small : (i : ℕ) → i < t.n → has_run t (timers_of r) i ≤ t.head.ttrt + all_shares t a + overrun_of t
  run_small i l =
      let first = timers-promised.first (timer_plan t a) (has_run t (timers_of r)) r.token T.kept T.course.token i l in
      let most = timers-promised.arrival (timer_plan t a) (has_run t (timers_of r)) r.token T.kept T.course.token in
      omega arith

  -- so a station's latest visit started at most so long ago
  pub latest_within : (i : ℕ) → i < t.n → (u : VisitRecord) → latest_of i h ≡ some u → r.clock ≤ u.start.0 + (t.head.ttrt + all_shares t a + overrun_of t)
  latest_within i l u e =
      ⊎_elim (λ (x : Unvisited r h i). let z : ◌≡◌ {A = ℕ} 0 1 = cc (e, x.latest) in absurd (omega arith))
      (λ (x : (w : VisitRecord) × Since t r h i w).
      let same : x.0 ≡ u = cc (e, x.1.latest) in
      omega (arith, T.since i l, run_small i l, x.1.last, ap (sync_start_of t) same, first t T.mode u.asynchronous.0))
      (T.course.arrived i l)

  -- and before its first visit the silent rotation passed it at most so long ago
  pub first_within : (i : ℕ) → i < t.n → latest_of i h ≡ none → silent_trt t i + r.clock ≤ t.head.ttrt + all_shares t a + overrun_of t
  first_within i l e = omega (arith, T.silent i l e, run_small i l)

  -- no late count is above 1
  pub late_small : (i : ℕ) → i < t.n → at r.late i ≤ 1
  late_small i l =
      timers-promised.counts (timer_plan t a) (has_run t (timers_of r)) r.token i (timer_of (timers_of r) i) (token_rule t a P) P.walk T.kept T.course.token l refl

-- ---- one visit more

module _ (t : Set) (a : Alloc) (r q : Timing) (v : VisitRecord) (h : List VisitRecord) (P : Plan t a) (T : Lapped t a r h) (C : VisitCourse t a r q v) (F : VisitLaps t a r q v) where
  -- a visit takes at most twice TTRT
  pub rise_small : rises t v ≤ 2 * t.head.ttrt
  rise_small =
      let own = sum_part_lem t.n (at a.s) r.token T.course.token in
      let walk = sum_part_lem t.n (at t.w) r.token T.course.token in
      ⊎_elim (λ none. omega (arith, F.moves.length, F.moves.within, P.token)) (λ early. omega (arith, F.moves.length, F.moves.within, P.token)) F.moves.early

  kept_next : Kept (timer_plan t a) (has_run t (timers_of q)) q.token
  kept_next =
      ⊎_elim (λ (b : ToNext t.n r.token).
      rw (C.token ∙ b.1) (timers-promised.next (timer_plan t a) (has_run t (timers_of r)) (has_run t (timers_of q)) r.token (rises t v) (token_rule t a P) T.kept F.moves b.0))
      (λ (b : ToFirst t.n r.token).
      rw (C.token ∙ b.1) (timers-promised.round (timer_plan t a) (has_run t (timers_of r)) (has_run t (timers_of q)) r.token (rises t v) (token_rule t a P) T.kept F.moves b.0))
      (following_is t.n r.token T.course.token)

  since_next : NumbersSince (timer_plan t a) (has_run t (timers_of q)) (at q.last) q.clock
  since_next =
      let was = has_run t (timers_of r) in
      let is = has_run t (timers_of q) in
      let begins : at q.last r.token ≡ r.clock = omega (arith, C.last_here, C.start, first t T.mode v.asynchronous.0) in
      rw C.clock
      (timers-promised.since (timer_plan t a) was is r.token (rises t v) (at r.last) (at q.last) r.clock F.moves T.since begins C.last_there)

  silent_next : (i : ℕ) → i < t.n → latest_of i (v ∷ h) ≡ none → has_run t (timers_of q) i ≡ silent_trt t i + q.clock
  silent_next i l e =
      ⊎_elim (λ (b : i ≡ r.token). let z : ◌≡◌ {A = ℕ} 0 1 = cc (latest_own t a r q v h P T.course C, rw b at e) in absurd (omega arith))
      (λ (b : i ≢ r.token).
      omega (arith, F.moves.there i l b, C.clock, T.silent i l (sym (latest_other t a r q v h P T.course C i b) ∙ e)))
      (same_or_not i r.token)

  pub lapped_kept : Lapped t a q (v ∷ h)
  lapped_kept =
      record {
        mode = T.mode;
        course = course_kept t a r q v h P T.course C;
        below = F.below;
        kept = kept_next;
        silent = silent_next;
        since = since_next;
      }
