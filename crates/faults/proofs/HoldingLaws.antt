-- What a given plan holds: in FDDI what is not a station's own is what is lost and the other stations' S; a plan breaks a rule exactly if one of the faults is there.
use Prim.Native.Nat.{ℕ, zero, suc, ◌+◌, ◌-◌, ◌≤◌, ◌<◌, min}
use mathlib.Core.Path.{◌≡◌, refl, sym, ap, ◌∙◌}
use mathlib.Core.Bool.{Bool, true, false, cond, not, ◌&&◌, true≢false}
use lib.Dec.{ltb}
use mathlib.Core.Logic.{◌↔◌, inl, inr, ⊎_elim}
use native.Mathlib.Omega.{arith}
use borrow.Author.Tests.{ltb-true, lt-ltb, leb-false, not-true, ne_eqb}
use Rattle.units.specs.Numbers.{most_stations}
use Rattle.units.specs.Grid.{MultipleOf, on_grid, on_grid_at, all_on_grid}
use Rattle.units.proofs.GridLaws.{decides_grid, decides_grids}
use Rattle.units.proofs.JudgingLaws.{decides_both, decides_le, decides_not, true_or_false}
use Rattle.units.specs.Places.{at, sum_below, all_below}
use Rattle.units.proofs.PlaceLaws.{sum_split, from_step}
use Rattle.units.specs.Vectors.{deadline_kept_at, deadlines_kept, token_kept}
use Rattle.units.proofs.VectorLaws.{decides_token, decides_deadlines}
use Rattle.units.specs.Judging.{Decides}
use Rattle.sets.specs.Rules.{CountAllowed, WalkTimeAllowed}
use Rattle.sets.proofs.SetLaws.{allowed}
use Rattle.sets.specs.declared.Set.{Set}
use Rattle.fddi.specs.Rules as fddi-rules
use Rattle.plans.specs.Rules.{lost, is_fddi, least_time, time_at, terms_of, InRange, KeepsRules, Retired}
use Rattle.plans.specs.Planned.{smallest_for, smallest_at, judged_plan, planned}
use Rattle.plans.proofs.PlanLaws.{smallest_is, time_timely, given_seven, given_none}
use Rattle.plans.specs.declared.Alloc.{Alloc}
use Rattle.reasons.specs.Shortages.{Plannable}
use Rattle.reasons.proofs.PlanningLaws.{exists_is, plan_is, plan_s}
use Rattle.faults.specs.Holdings.{is_station, time_by, excess_of, holding_with, holding_at, Faulty}
use Rattle.faults.specs.Promised.{Held}

-- ---- what is handed out

decides_lt : (a b : ℕ) → Decides (ltb a b) (a < b)
decides_lt a b = (ltb-true a b, lt-ltb a b)

pub decides_station : (t : Set) (i : ℕ) → Decides (is_station t i) ((t.n ≤ most_stations) × (i < t.n))
decides_station t i = decides_both _ _ _ _ (decides_le t.n most_stations) (decides_lt i t.n)

pub holding_says : (t : Set) (a : Alloc) (i : ℕ) → is_station t i ≡ true → holding_at t a i ≡ holding_with t.head (at t.c i) (at t.d i) (at a.s i) (time_at t (at a.s) i)
unfolding holding_at
holding_says t a i e = rw e

pub holding_none : (t : Set) (a : Alloc) (i : ℕ) → is_station t i ≡ false → holding_at t a i ≡ record { time = 0; short = false; off_grid = false; excess = 0 }
unfolding holding_at
holding_none t a i e = rw e

-- the other stations' S are the sum of all but the station's own
others_are : (n : ℕ) (s : ℕ → ℕ) (i : ℕ) → i < n → sum_below n s - s i ≡ fddi-rules.others n s i
others_are n s i l = omega (arith, sum_split n s i (omega arith), from_step n s i l)

-- X over plain numbers is the set's
pub time_is : (t : Set) (s : ℕ → ℕ) (i : ℕ) → t.n ≤ 128 → i < t.n → time_by t.head (at t.d i) (lost t + (sum_below t.n s - s i)) (s i) ≡ time_at t s i
unfolding time_by time_at
time_is t s i few l =
    let stations : min t.n 128 ≡ t.n = omega arith in
    let away : lost t + (sum_below t.n s - s i) ≡ lost t + fddi-rules.others (min t.n 128) s i =
    ap (λ (z : ℕ). lost t + z) (others_are t.n s i l) ∙ rw stations refl in
    ap (λ (z : ℕ). cond (is_fddi t) (fddi-rules.least_time t.head.ttrt (at t.d i) z (s i)) (least_time t.head.ttrt (at t.d i) (s i))) away

-- ---- what is said of a station

excess_timely : (t : Set) (c d s : ℕ) → is_fddi t ≡ false → excess_of t.head c d s ≡ s - smallest_for t.head.grid t.head.ttrt c d
unfolding excess_of
excess_timely t c d s e = rw e

module _ (t : Set) (a : Alloc) (i : ℕ) (count : CountAllowed t) (l : i < t.n) where
  said : holding_at t a i ≡ holding_with t.head (at t.c i) (at t.d i) (at a.s i) (time_at t (at a.s) i)
  said = holding_says t a i ((decides_station t i).1 (count.1, l))

  excess_said : judged_plan t a ≡ 0 → ¬ Retired t → at a.s i ≡ smallest_at t i + excess_of t.head (at t.c i) (at t.d i) (at a.s i)
  excess_said kept timely =
      let mode : is_fddi t ≡ false = ne_eqb _ _ timely in
      let all = (given_none t a).0 kept in
      let rules = all.1.1.1 in
      let small = smallest_is t.head.grid t.head.ttrt (at t.c i) (at t.d i) all.1.0.0.header.grid.0 in
      let least : smallest_at t i ≤ at a.s i = small.least (at a.s i) (rules.grid i l) (rw (time_timely t (at a.s) i mode) at (rules.deadlines i l)) in
      omega (arith, excess_timely t (at t.c i) (at t.d i) (at a.s i) mode)

  grid_said : (not (on_grid t.head.grid (at a.s i)) ≡ true) ↔ ¬ MultipleOf t.head.grid (at a.s i)
  grid_said =
      let d = decides_not _ _ (decides_grid t.head.grid (at a.s i)) in
      ((λ e. d.0 (not-true _ e)), λ n. ap not (d.1 n))

  pub held : Held t a i
  held =
      record {
        time = rw said refl;
        short = rw said (decides_lt (time_at t (at a.s) i) (at t.c i));
        off_grid = rw said grid_said;
        excess = rw said excess_said;
      }

-- ---- a given plan that meets the rules, and planning's

module _ (t : Set) (a : Alloc) (kept : judged_plan t a ≡ 0) (timely : ¬ Retired t) where
  is_plannable : Plannable t
  is_plannable = let all = (given_none t a).0 kept in ((allowed t).1 (all.0, (all.1.0.0, all.1.1.0)), timely)

  pub planned_too : (planned t).number ≡ 0
  planned_too = (plan_is t is_plannable).1 ((exists_is t is_plannable).0 (a.s, ((given_none t a).0 kept).1.1.1))

  pub planned_same : ((i : ℕ) → i < t.n → (holding_at t a i).excess ≡ 0) ↔ ((i : ℕ) → i < t.n → at a.s i ≡ at (planned t).alloc.s i)
  planned_same =
      let count = ((given_none t a).0 kept).0 in (
        λ none i l. omega (arith, (held t a i count l).excess kept timely, none i l, plan_s t is_plannable planned_too i l),
        λ same i l. omega (arith, (held t a i count l).excess kept timely, same i l, plan_s t is_plannable planned_too i l),
      )

-- ---- the rules, and their faults

and_right : (x y : Bool) → y ≡ true → (x && y) ≡ x
and_right true y e = e
and_right false y e = refl

-- a test that fails over n places fails at one of them
pub fails_somewhere : (n : ℕ) (f : ℕ → Bool) → all_below n f ≡ false → (i : ℕ) × ((i < n) × (f i ≡ false))
unfolding all_below
fails_somewhere zero f e = absurd (true≢false e)
fails_somewhere (suc n) f e =
    ⊎_elim (λ (here : f n ≡ true).
    let before = fails_somewhere n f (sym (and_right (all_below n f) (f n) here) ∙ e) in
    (before.0, (omega (arith, before.1.0), before.1.1)))
    (λ (here : f n ≡ false). (n, (omega arith, here)))
    (true_or_false (f n))

module _ (t : Set) (a : Alloc) (count : CountAllowed t) where
  -- a fault breaks its rule
  faulty_broken : Faulty t a → ¬ KeepsRules t a
  faulty_broken (inl (i, (l, e))) m = let below = (held t a i count l).short.0 e in omega (arith, m.deadlines i l)
  faulty_broken (inr (inl (i, (l, e)))) m = (held t a i count l).off_grid.0 e (m.grid i l)
  faulty_broken (inr (inr e)) m = omega (arith, m.token)

  -- where no rule is broken by a fault, all are kept
  broken_faulty : ¬ KeepsRules t a → Faulty t a
  broken_faulty broken =
      let s = at a.s in
      ⊎_elim (λ (d : deadlines_kept (terms_of t) s ≡ true).
      ⊎_elim (λ (g : all_on_grid t.head.grid t.n s ≡ true).
      ⊎_elim (λ (k : token_kept t.head.ttrt (lost t) t.n s ≡ true).
      absurd (broken (record { deadlines = (decides_deadlines (terms_of t) s).0 d; token = (decides_token t.head.ttrt (lost t) t.n s).0 k; grid = (decides_grids t.head.grid t.n s).0 g })))
      (λ (k : token_kept t.head.ttrt (lost t) t.n s ≡ false).
      let above : t.head.ttrt < sum_below t.n s + lost t = leb-false _ _ k in
      inr (inr (omega arith)))
      (true_or_false (token_kept t.head.ttrt (lost t) t.n s)))
      (λ (g : all_on_grid t.head.grid t.n s ≡ false).
      let off = fails_somewhere t.n (on_grid_at t.head.grid s) g in
      let none = (decides_not _ _ (decides_grid t.head.grid (s off.0))).0 off.1.1 in
      inr (inl (off.0, (off.1.0, (held t a off.0 count off.1.0).off_grid.1 none))))
      (true_or_false (all_on_grid t.head.grid t.n s)))
      (λ (d : deadlines_kept (terms_of t) s ≡ false).
      let late = fails_somewhere t.n (deadline_kept_at (terms_of t) s) d in
      inl (late.0, (late.1.0, (held t a late.0 count late.1.0).short.1 (leb-false _ _ late.1.1))))
      (true_or_false (deadlines_kept (terms_of t) s))

pub seven : (t : Set) (a : Alloc) → (judged_plan t a ≡ 7) ↔ (CountAllowed t × (InRange t a × (WalkTimeAllowed t × Faulty t a)))
seven t a = (
  λ e. let f = (given_seven t a).0 e in (f.0, (f.1.0, (f.1.1.0, broken_faulty t a f.0 f.1.1.1))),
  λ f. (given_seven t a).1 (f.0, (f.1.0, (f.1.1.0, faulty_broken t a f.0 f.1.1.1))),
)
