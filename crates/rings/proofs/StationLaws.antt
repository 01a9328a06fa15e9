-- FDDI's timers station by station: a visit and an opening move each as `fddi_timer_rules` says. The number v i of `fddi_timer_rules` is `has_run`.
use Prim.Native.Nat.{ℕ, ◌+◌, ◌-◌, ◌≤◌, ◌<◌}
use mathlib.Core.Path.{◌≡◌, ap, ◌∙◌}
use mathlib.Core.Bool.{true, false}
use mathlib.Core.Logic.{◌⊎◌, inl, inr, ◌≢◌, ⊎_elim}
use native.Mathlib.Omega.{arith}
use lib.Dec.{eqb}
use lib.ListN.{length, length-set}
use lib.Seq.{get_or-set_same, get_or-set_other}
use Rattle.units.specs.Places.{at}
use Rattle.units.proofs.PlaceLaws.{fill_length, fill_inside}
use Rattle.units.proofs.JudgingLaws.{true_or_false}
use Rattle.units.proofs.SmallLaws.{below_or_not}
use Rattle.sets.specs.Judged.{zeros}
use Rattle.sets.specs.declared.Set.{Set}
use Rattle.plans.specs.Planned.{judged_plan}
use Rattle.plans.proofs.PlanLaws.{given_none}
use Rattle.plans.specs.declared.Alloc.{Alloc}
use Rattle.fddi_timer_rules.specs.Timers.{Timer, ran, later, started_at, visited}
use Rattle.fddi_timer_rules.proofs.Promised.{promised}
use Rattle.rings.specs.State.{count, ttrt, Shaped, timers_of}
use Rattle.rings.specs.Timers.{Fddi, timer_of, has_run, timers_offer, rise, token_came, time_passed, silent_trt, silent_fddi, most_late}
use Rattle.rings.proofs.TimerLaws.{offer_fddi, after_fddi, opened_fddi}
use Rattle.rings.specs.Opening.{opened_ring}
use Rattle.rings.specs.Sound.{Sound}
use Rattle.rings.specs.Steps.{moved}
use Rattle.rings.proofs.RingLaws.{sound_plan}
use Rattle.rings.specs.declared.Ring.{Ring}
use Rattle.rings.specs.declared.Timers.{Timers}
use Rattle.rings.proofs.FddiLaws.{silent_small}

pub equal_or_not : (i j : ℕ) → (i ≡ j) ⊎ (i ≢ j)
equal_or_not i j =
    ⊎_elim (λ (l : i < j). inr (omega arith))
    (λ (l : j ≤ i). ⊎_elim (λ (k : j < i). inr (omega arith)) (λ (k : i ≤ j). inl (omega arith)) (below_or_not j i))
    (below_or_not i j)

-- two timers are one if both numbers are
same_numbers : (a b : Timer) → a.count ≡ b.count → a.timer ≡ b.timer → a ≡ b
same_numbers a b c t = λ i. record { count = c i; timer = t i }

-- ---- one station of the arrays

-- time passes for each of the first n
passed_at : (n ttrt x : ℕ) (t : Timers) (i : ℕ) → i < n → n ≤ length t.trt → n ≤ length t.late
    → timer_of (time_passed n ttrt x t) i ≡ later ttrt x (timer_of t i)
unfolding time_passed
passed_at n ttrt x t i l many late =
    same_numbers _ _ (fill_inside n (λ j. (later ttrt x (timer_of t j)).count) t.late i l late)
    (fill_inside n (λ j. (later ttrt x (timer_of t j)).timer) t.trt i l many)

-- the token comes to station p
came_here : (p : ℕ) (t : Timers) → p < length t.trt → p < length t.late → timer_of (token_came p t) p ≡ visited (timer_of t p)
unfolding token_came
came_here p t many late =
    same_numbers _ _ (get_or-set_same t.late p (visited (timer_of t p)).count 0 late) (get_or-set_same t.trt p (visited (timer_of t p)).timer 0 many)

came_there : (p i : ℕ) (t : Timers) → i ≢ p → timer_of (token_came p t) i ≡ timer_of t i
unfolding token_came
came_there p i t n =
    same_numbers _ _ (get_or-set_other t.late p i (visited (timer_of t p)).count 0 (omega arith))
    (get_or-set_other t.trt p i (visited (timer_of t p)).timer 0 (omega arith))

came_length : (p : ℕ) (t : Timers) → (length (token_came p t).trt ≡ length t.trt) × (length (token_came p t).late ≡ length t.late)
unfolding token_came
came_length p t = (length-set t.trt p _, length-set t.late p _)

passed_length : (n ttrt x : ℕ) (t : Timers) → (length (time_passed n ttrt x t).trt ≡ length t.trt) × (length (time_passed n ttrt x t).late ≡ length t.late)
unfolding time_passed
passed_length n ttrt x t = (fill_length n _ t.trt, fill_length n _ t.late)

-- ---- a visit

module _ (r : Ring) (L : Shaped r) (s : Sound r) (e : Fddi r.set) where
  few : count r ≤ 128
  few = (sound_plan r s).0.1

  timers_below : (i : ℕ) → i < count r → at r.trt i < ttrt r
  timers_below i l = (s.timers.fddi e).timers i l

  some : 0 < ttrt r
  some = omega (arith, timers_below r.token s.token)

  pub offer_ran : timers_offer r ≡ ttrt r - has_run r.set (timers_of r) r.token
  offer_ran = offer_fddi r e ∙ promised.offered_is (ttrt r) (timer_of (timers_of r) r.token) (timers_below r.token s.token)

  module _ (sync async : ℕ) where
    -- every station but the token's: time passes
    pub timer_there : (i : ℕ) → i < count r → i ≢ r.token → timer_of (timers_of (moved r sync async)) i ≡ later (ttrt r) (rise r sync async) (timer_of (timers_of r) i)
    unfolding moved
    timer_there i l n =
        let now = token_came r.token (timers_of r) in
        let long = came_length r.token (timers_of r) in
        ap (λ (t : Timers). timer_of t i) (after_fddi r e sync async) ∙
        passed_at (count r) (ttrt r) (rise r sync async) now i l (omega (arith, few, long.0, L.trt)) (omega (arith, few, long.1, L.late)) ∙
        ap (later (ttrt r) (rise r sync async)) (came_there r.token i (timers_of r) n)

    -- the token's: it comes, and then time passes
    pub timer_here : timer_of (timers_of (moved r sync async)) r.token ≡ later (ttrt r) (rise r sync async) (visited (timer_of (timers_of r) r.token))
    unfolding moved
    timer_here =
        let p = r.token in
        let now = token_came p (timers_of r) in
        let long = came_length p (timers_of r) in
        ap (λ (t : Timers). timer_of t p) (after_fddi r e sync async) ∙
        passed_at (count r) (ttrt r) (rise r sync async) now p s.token (omega (arith, few, long.0, L.trt)) (omega (arith, few, long.1, L.late)) ∙
        ap (later (ttrt r) (rise r sync async)) (came_here p (timers_of r) (omega (arith, few, s.token, L.trt)) (omega (arith, few, s.token, L.late)))

    -- the same of the numbers: all rise by the same, and the token's has lost TTRT, held at 0
    pub ran_there : (i : ℕ) → i < count r → i ≢ r.token → has_run r.set (timers_of (moved r sync async)) i ≡ has_run r.set (timers_of r) i + rise r sync async
    ran_there i l n =
        ap (ran (ttrt r)) (timer_there i l n) ∙ promised.later_ran (ttrt r) (rise r sync async) (timer_of (timers_of r) i)

    pub ran_here : has_run r.set (timers_of (moved r sync async)) r.token ≡ has_run r.set (timers_of r) r.token - ttrt r + rise r sync async
    ran_here =
        let t = timer_of (timers_of r) r.token in
        ap (ran (ttrt r)) timer_here ∙ promised.later_ran (ttrt r) (rise r sync async) (visited t) ∙
        ap (λ (v : ℕ). v + rise r sync async) (promised.visited_ran (ttrt r) t (timers_below r.token s.token))

    -- and every timer is below TTRT
    pub moved_below : (i : ℕ) → i < count r → at (moved r sync async).trt i < ttrt r
    moved_below i l =
        ⊎_elim (λ (q : i ≡ r.token). rw q (rw (ap (λ (t : Timer). t.timer) timer_here) (promised.later_below (ttrt r) _ _ some)))
        (λ (q : i ≢ r.token). rw (ap (λ (t : Timer). t.timer) (timer_there i l q)) (promised.later_below (ttrt r) _ _ some))
        (equal_or_not i r.token)

    pub moved_long : (length (moved r sync async).trt ≡ 128) × (length (moved r sync async).late ≡ 128)
    unfolding moved
    moved_long =
        let now = token_came r.token (timers_of r) in
        let came = came_length r.token (timers_of r) in
        let passed = passed_length (count r) (ttrt r) (rise r sync async) now in
        rw (after_fddi r e sync async) (passed.0 ∙ came.0 ∙ L.trt, passed.1 ∙ came.1 ∙ L.late)

-- ---- opening

-- a count starts at 0 or 1
started_few : (ttrt x : ℕ) → (started_at ttrt x).count ≤ most_late
unfolding started_at
started_few ttrt x = ⊎_elim (λ (e : eqb x ttrt ≡ true). rw e (omega arith)) (λ (e : eqb x ttrt ≡ false). rw e (omega arith)) (true_or_false (eqb x ttrt))

module _ (t : Set) (a : Alloc) (h : judged_plan t a ≡ 0) (e : Fddi t) where
  pub opened_timer : (i : ℕ) → i < t.n → timer_of (timers_of (opened_ring t a)) i ≡ started_at t.head.ttrt (silent_trt t i)
  unfolding opened_ring silent_fddi
  opened_timer i l =
      let few = ((given_none t a).0 h).0.1 in
      ap (λ (x : Timers). timer_of x i) (opened_fddi t a e) ∙
      same_numbers _ _ (fill_inside t.n (λ j. (started_at t.head.ttrt (silent_trt t j)).count) zeros i l few)
      (fill_inside t.n (λ j. (started_at t.head.ttrt (silent_trt t j)).timer) zeros i l few)

  started : (i : ℕ) → i < t.n → (ran t.head.ttrt (started_at t.head.ttrt (silent_trt t i)) ≡ silent_trt t i) × ((started_at t.head.ttrt (silent_trt t i)).timer < t.head.ttrt)
  started i l =
      promised.started t.head.ttrt (silent_trt t i) (omega (arith, ((given_none t a).0 h).1.0.0.header.ttrt.0)) (silent_small t a h i l)

  pub opened_ran : (i : ℕ) → i < t.n → has_run t (timers_of (opened_ring t a)) i ≡ silent_trt t i
  opened_ran i l = ap (ran t.head.ttrt) (opened_timer i l) ∙ (started i l).0

  pub opened_few : (i : ℕ) → i < t.n → at (opened_ring t a).late i ≤ most_late
  opened_few i l = rw (ap (λ (x : Timer). x.count) (opened_timer i l)) (started_few t.head.ttrt (silent_trt t i))

  pub opened_below : (i : ℕ) → i < t.n → at (opened_ring t a).trt i < t.head.ttrt
  opened_below i l = rw (ap (λ (x : Timer). x.timer) (opened_timer i l)) (started i l).1
