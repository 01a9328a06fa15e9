-- The laws of the timers, mode by mode, for the proofs of this layer and those above.
use Prim.Native.Nat.{ℕ, ◌-◌, ◌≤◌, ◌<◌}
use mathlib.Core.Path.{◌≡◌}
use mathlib.Core.Bool.{true, false}
use mathlib.Core.Logic.{◌⊎◌, inl, inr, ⊎_elim}
use native.Mathlib.Omega.{arith}
use borrow.Author.Tests.{eqb-true, eqb-false, eq-eqb, ne_eqb, lt-leb, lt-ltb}
use Rattle.units.specs.Places.{at}
use Rattle.units.proofs.JudgingLaws.{true_or_false}
use Rattle.units.proofs.SmallLaws.{below_or_not}
use Rattle.sets.specs.declared.Set.{Set}
use Rattle.plans.specs.Rules.{is_fddi}
use Rattle.plans.specs.declared.Alloc.{Alloc}
use Rattle.fddi_timer_rules.specs.Timers.{Timer, visited, offered}
use Rattle.rings.specs.State.{Marked, Unmarked, is_marked}
use Rattle.rings.specs.Timers.{Fddi, Earlier, is_earlier, lead, timely_limit, fddi_limit, timers_offer, limit, timely_after, fddi_after, timers_after, silent_timely, silent_fddi, silent_timers}
use Rattle.rings.specs.declared.Ring.{Ring}

-- ---- the mode is FDDI or it is not

pub fddi_true : (t : Set) → Fddi t → is_fddi t ≡ true
fddi_true t e = eq-eqb _ _ e

pub fddi_false : (t : Set) → ¬ Fddi t → is_fddi t ≡ false
fddi_false t n = ne_eqb _ _ n

pub fddi_or_not : (t : Set) → (Fddi t) ⊎ (¬ Fddi t)
fddi_or_not t =
    ⊎_elim (λ (e : is_fddi t ≡ true). inl (eqb-true _ _ e)) (λ (e : is_fddi t ≡ false). inr (eqb-false _ _ e)) (true_or_false (is_fddi t))

-- ---- the edition is that of 2002 or it is not

pub lead_all : (t : Set) → Earlier t → (async : ℕ) → lead t async ≡ async
unfolding lead
lead_all t e async = rw (eq-eqb _ _ e)

pub lead_none : (t : Set) → ¬ Earlier t → (async : ℕ) → lead t async ≡ 0
unfolding lead
lead_none t n async = rw (ne_eqb _ _ n)

pub earlier_or_not : (t : Set) → (Earlier t) ⊎ (¬ Earlier t)
earlier_or_not t =
    ⊎_elim (λ (e : is_earlier t ≡ true). inl (eqb-true _ _ e)) (λ (e : is_earlier t ≡ false). inr (eqb-false _ _ e)) (true_or_false (is_earlier t))

pub lead_within : (t : Set) (async : ℕ) → lead t async ≤ async
lead_within t async =
    ⊎_elim (λ e. omega (arith, lead_all t e async)) (λ n. omega (arith, lead_none t n async)) (earlier_or_not t)

-- ---- a station is marked or it is not

pub none_left : (x : ℕ) → x ≤ 0 → x ≡ 0
none_left x l = omega arith

pub marked_true : (r : Ring) (i : ℕ) → Marked r i → is_marked r i ≡ true
marked_true r i m = lt-ltb _ _ m

pub marked_false : (r : Ring) (i : ℕ) → Unmarked r i → is_marked r i ≡ false
marked_false r i u = rw u

pub marked_or_not : (r : Ring) (i : ℕ) → Marked r i ⊎ Unmarked r i
marked_or_not r i = ⊎_elim (λ (l : 0 < at r.mark i). inl l) (λ (l : at r.mark i ≤ 0). inr (none_left _ l)) (below_or_not 0 (at r.mark i))

-- a marked station is offered 0, any other what the timers offer
pub limit_marked : (r : Ring) → Marked r r.token → limit r ≡ 0
unfolding limit
limit_marked r m = rw (marked_true r r.token m)

pub limit_unmarked : (r : Ring) → Unmarked r r.token → limit r ≡ timers_offer r
unfolding limit
limit_unmarked r u = rw (marked_false r r.token u)

-- so nobody is offered more than that
pub limit_within : (r : Ring) → limit r ≤ timers_offer r
limit_within r =
    ⊎_elim (λ (m : Marked r r.token). omega (arith, limit_marked r m)) (λ (u : Unmarked r r.token). omega (arith, limit_unmarked r u)) (marked_or_not r r.token)

-- ---- each definition in each mode

module _ (r : Ring) (e : Fddi r.set) where
  pub offer_fddi : timers_offer r ≡ fddi_limit r
  unfolding timers_offer
  offer_fddi = rw (fddi_true r.set e)

  pub after_fddi : (sync async : ℕ) → timers_after r sync async ≡ fddi_after r sync async
  unfolding timers_after
  after_fddi sync async = rw (fddi_true r.set e)

module _ (r : Ring) (n : ¬ Fddi r.set) where
  pub offer_timely : timers_offer r ≡ timely_limit r
  unfolding timers_offer
  offer_timely = rw (fddi_false r.set n)

  pub after_timely : (sync async : ℕ) → timers_after r sync async ≡ timely_after r sync async
  unfolding timers_after
  after_timely sync async = rw (fddi_false r.set n)

pub opened_fddi : (t : Set) (a : Alloc) → Fddi t → silent_timers t a ≡ silent_fddi t a
unfolding silent_timers
opened_fddi t a e = rw (fddi_true t e)

pub opened_timely : (t : Set) (a : Alloc) → ¬ Fddi t → silent_timers t a ≡ silent_timely t a
unfolding silent_timers
opened_timely t a n = rw (fddi_false t n)

-- ---- a token comes to one timer

-- late: the count falls by 1, the timer runs on, and nothing is offered
pub came_late : (t : Timer) → 0 < t.count → visited t ≡ record { count = t.count - 1; timer = t.timer }
unfolding visited
came_late t l = rw (lt-leb t.count 0 l)

pub offered_late : (ttrt : ℕ) (t : Timer) → 0 < t.count → offered ttrt t ≡ 0
unfolding offered
offered_late ttrt t l = rw (lt-leb t.count 0 l)

-- not late: the timer goes to 0, and TTRT less the timer is offered
pub came_early : (t : Timer) → t.count ≡ 0 → visited t ≡ record { count = 0; timer = 0 }
unfolding visited
came_early t z = rw z

pub offered_early : (ttrt : ℕ) (t : Timer) → t.count ≡ 0 → offered ttrt t ≡ ttrt - t.timer
unfolding offered
offered_early ttrt t z = rw z
