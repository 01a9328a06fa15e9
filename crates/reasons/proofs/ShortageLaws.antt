-- What is needed, what there is, and what is missing of a set; the set without its grid.
use Prim.Native.Nat.{ℕ, ◌+◌, ◌-◌, ◌≤◌, ◌<◌}
use mathlib.Core.Path.{◌≡◌, ap}
use mathlib.Core.Bool.{true, false}
use mathlib.Core.List.{List}
use mathlib.Core.Logic.{◌↔◌, ⊎_elim}
use native.Mathlib.Omega.{arith}
use borrow.Author.Tests.{ltb-true, eqb-true, eq-eqb}
use Rattle.units.specs.Grid.{AllOnGrid}
use Rattle.units.proofs.GridLaws.{every_multiple}
use Rattle.units.proofs.JudgingLaws.{decides_both, iff_then, and-true, true_or_false}
use Rattle.units.proofs.SmallLaws.{below_or_not}
use Rattle.units.specs.Places.{at}
use Rattle.units.proofs.PlaceLaws.{sum_part_lem}
use Rattle.units.specs.Vectors.{TokenKept}
use Rattle.sets.specs.Rules.{NumbersAllowed}
use Rattle.sets.proofs.SetLaws.{allowed}
use Rattle.sets.specs.declared.Set.{Set}
use Rattle.plans.specs.Rules.{lost, MeetsDeadlines, MeetsToken, MeetsRules}
use Rattle.plans.specs.Planned.{smallest_at, planned}
use Rattle.plans.proofs.PlanLaws.{time_timely}
use Rattle.reasons.specs.Shortages.{Plannable, plannable, smallest_sum, needed, available, missing, no_shortage, shortage_of, too_much, with_grid, grid_is_cause}
use Rattle.reasons.proofs.PlanningLaws.{decides_plannable, six_plannable, own_mode, exists_is, six_is, plan_is, sum_least}
use Rattle.reasons.specs.declared.Shortage.{Shortage}

-- ---- what is handed out

pub shortage_says : (t : Set) → plannable t ≡ true → shortage_of t ≡ record { sum = smallest_sum t; needed = needed t; available = available t; missing = missing t }
unfolding shortage_of
shortage_says t e = rw e

pub shortage_none : (t : Set) → plannable t ≡ false → shortage_of t ≡ no_shortage
unfolding shortage_of
shortage_none t e = rw e

module _ (t : Set) (h : Plannable t) where
  pub said : shortage_of t ≡ record { sum = smallest_sum t; needed = needed t; available = available t; missing = missing t }
  said = shortage_says t ((decides_plannable t).1 h)

  missing_said : (shortage_of t).missing ≡ needed t - t.head.ttrt
  missing_said = ap (λ (r : Shortage). r.missing) said

  -- ---- the missing ticks

  pub exact : (more : ℕ) → TokenKept (t.head.ttrt + more) (lost t) t.n (smallest_at t) ↔ ((shortage_of t).missing ≤ more)
  exact more = ((λ k. omega (arith, missing_said)), λ l. omega (arith, missing_said))

  six_says : ((planned t).number ≡ 6) ↔ (0 < (shortage_of t).missing)
  six_says = iff_then (six_is t h) (
    (λ none.
        ⊎_elim (λ (b : t.head.ttrt < needed t). omega (arith, missing_said)) (λ (b : needed t ≤ t.head.ttrt). absurd (none b)) (below_or_not t.head.ttrt (needed t))),
    λ (l : 0 < (shortage_of t).missing) k. omega (arith, missing_said),
  )

  pub plan : ((planned t).number ≡ 0) ↔ ((shortage_of t).missing ≡ 0)
  plan = iff_then (plan_is t h) ((λ k. omega (arith, missing_said)), λ e. omega (arith, missing_said))

  pub no_better : (more : ℕ) (s : ℕ → ℕ) → MeetsDeadlines t s → AllOnGrid t.head.grid t.n s → TokenKept (t.head.ttrt + more) (lost t) t.n s → (shortage_of t).missing ≤ more
  no_better more s deadlines grid token = omega (arith, missing_said, sum_least t h s deadlines grid)

  pub alone : (i : ℕ) → i < t.n → too_much (shortage_of t).available (smallest_at t i) ≡ true → (planned t).number ≡ 6
  alone i l e =
      let there : (shortage_of t).available ≡ t.head.ttrt - lost t = ap (λ (r : Shortage). r.available) said in
      let above : (shortage_of t).available < smallest_at t i = ltb-true _ _ e in
      (six_is t h).1 (λ k. omega (arith, sum_part_lem t.n (smallest_at t) i l))

pub six : (t : Set) → ((planned t).number ≡ 6) ↔ (0 < (shortage_of t).missing)
six t = (
  λ e. (six_says t (six_plannable t e)).0 e,
  λ (l : 0 < (shortage_of t).missing).
      ⊎_elim (λ e. (six_says t ((decides_plannable t).0 e)).1 l)
      (λ e. let none = ap (λ (r : Shortage). r.missing) (shortage_none t e) in absurd (omega arith))
      (true_or_false (plannable t)),
)

-- ---- without the grid

-- the rules of the set with g 1 are the deadline rule and the token rule
module _ (t : Set) (h : Plannable t) where
  free_plannable : Plannable (with_grid t 1)
  free_plannable =
      let all = (allowed t).0 h.0 in
      let head = all.1.0.header in
      let free : NumbersAllowed (with_grid t 1) = record { header = record { ttrt = head.ttrt; mode = head.mode; frame = head.frame; grid = (omega arith, omega arith) }; stations = all.1.0.stations } in
      ((allowed (with_grid t 1)).1 (all.0, (free, all.1.1)), h.1)

  free_rules : (s : ℕ → ℕ) → MeetsRules (with_grid t 1) s ↔ (MeetsDeadlines t s × MeetsToken t s)
  free_rules s = (
    λ m. (λ i l. rw (time_timely t s i (own_mode t h), ← time_timely (with_grid t 1) s i (own_mode t h)) (m.deadlines i l), m.token),
    λ m.
        record {
          deadlines = λ i l. rw (time_timely (with_grid t 1) s i (own_mode t h), ← time_timely t s i (own_mode t h)) (m.0 i l);
          token = m.1;
          grid = λ i l. every_multiple (s i);
        },
  )

  cause_says : (grid_is_cause t ≡ true) ↔ (((planned t).number ≡ 6) × ((s : List ℕ) × (MeetsDeadlines t (at s) × MeetsToken t (at s))))
  cause_says =
      let u = with_grid t 1 in
      let free = exists_is u free_plannable in
      let both = decides_both _ _ _ _ (eqb-true (planned t).number 6, eq-eqb (planned t).number 6) (eqb-true (planned u).number 0, eq-eqb (planned u).number 0) in
      let token = plan_is u free_plannable in (
        λ e.
            let b = both.0 e in
            let some = free.1 (token.0 b.1) in
            (b.0, (some.0, (free_rules (at some.0)).0 some.1)),
        λ f. both.1 (f.0, token.1 (free.0 (f.1.0, (free_rules (at f.1.0)).1 f.1.1))),
      )

pub grid_cause : (t : Set) → (grid_is_cause t ≡ true) ↔ (((planned t).number ≡ 6) × ((s : List ℕ) × (MeetsDeadlines t (at s) × MeetsToken t (at s))))
grid_cause t = (
  λ e. (cause_says t (six_plannable t (eqb-true _ _ (and-true _ _ e).0))).0 e,
  λ f. (cause_says t (six_plannable t f.0)).1 f,
)
