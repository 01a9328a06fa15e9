-- A TTRT tried by plain numbers is the TTRT tried: of a set whose other numbers are allowed, planning finds a plan exactly where TTRT and τ are in their ranges and the smallest S fit, and what is left is A*.
use Prim.Native.Nat.{ℕ, zero, suc, ◌+◌, ◌-◌, ◌≤◌}
use mathlib.Core.Path.{◌≡◌, refl, sym, ap, ◌∙◌}
use mathlib.Core.Bool.{true, false, not}
use mathlib.Core.List.{List}
use mathlib.Core.Logic.{◌↔◌, ◌≢◌, ⊎_elim}
use native.Mathlib.Numerals.{add-one}
use native.Mathlib.Omega.{arith}
use borrow.Author.Tests.{eqb-true, eq-eqb}
use Rattle.units.specs.Numbers.{most_ttrt}
use Rattle.units.specs.Judging.{Decides}
use Rattle.units.proofs.JudgingLaws.{decides_both, decides_between, decides_le, decides_not, same_test, true_or_false, held, failed, given_later, iff_then, iff_under}
use Rattle.units.specs.Places.{at}
use Rattle.units.proofs.PlaceLaws.{sum_same}
use Rattle.sets.specs.Rules.{tau, CountAllowed, NumbersAllowed, count_allowed, numbers_allowed}
use Rattle.sets.proofs.SetLaws.{decides_count, decides_numbers, allowed}
use Rattle.sets.specs.declared.Set.{Set}
use Rattle.plans.specs.Rules.{lost, is_fddi, Retired}
use Rattle.plans.specs.Planned.{smallest_at}
use Rattle.plans.proofs.PlanLaws.{decides_fddi, decides_in_use, spare_timely, use_timely}
use Rattle.reasons.specs.Shortages.{Plannable}
use Rattle.reasons.proofs.PlanningLaws.{plan_plannable, plan_is, plan_s}
use Rattle.tuning.specs.Bounds.{needed_at, fits_at, tried_with, tried_over}
use Rattle.tuning.specs.Tunings.{with_ttrt, judged_at_all, planned_at, has_plan, spare_at, counted, tried_at, tuned_over}
use Rattle.tuning.specs.declared.Terms.{Terms}
use Rattle.tuning.specs.declared.Tuning.{Tuning}

-- ---- one TTRT, by plain numbers and by planning

module _ (h : Terms) (c d : List ℕ) (x : ℕ) (k : Tuning) where
  pub with_plan_lem : fits_at h c d x ≡ true → tried_with h c d x k ≡ counted h.own x (x - needed_at h c d x) k
  unfolding tried_with
  with_plan_lem e = rw e refl

  pub without_plan : fits_at h c d x ≡ false → tried_with h c d x k ≡ k
  unfolding tried_with
  without_plan e = rw e refl

module _ (t : Set) (x : ℕ) (k : Tuning) where
  pub tried_plan : has_plan t x ≡ true → tried_at t x k ≡ counted t.head.ttrt x (spare_at t x) k
  unfolding tried_at
  tried_plan e = rw e refl

  pub tried_none : has_plan t x ≡ false → tried_at t x k ≡ k
  unfolding tried_at
  tried_none e = rw e refl

-- ---- one after another

pub over_none : (h : Terms) (c d : List ℕ) (from : ℕ) (k : Tuning) → tried_over h c d from 0 k ≡ k
unfolding tried_over
over_none h c d from k = refl

pub over_step : (h : Terms) (c d : List ℕ) (from i : ℕ) (k : Tuning) → tried_over h c d from (i + 1) k ≡ tried_with h c d (from + i) (tried_over h c d from i k)
unfolding tried_over
over_step h c d from i k = rw add-one

-- ---- a set whose numbers but TTRT are allowed

-- what of a set is the same at every TTRT
abbrev pub terms_of : Set → Terms
terms_of t = record { own = t.head.ttrt; grid = t.head.grid; n = t.n; tau = tau t; lost = lost t }

pub record Tunable (t : Set) : Type 0 where
  pub count : CountAllowed t
  pub numbers : NumbersAllowed (with_ttrt t most_ttrt)
  pub in_use_lem : ¬ Retired t

-- exactly where nothing is refused whatever TTRT is
pub judged_tunable : (t : Set) → (judged_at_all t ≡ 0) ↔ Tunable t
unfolding judged_at_all
judged_tunable t =
    iff_then (given_later _ _ 2 _ 0 (decides_count t) (omega arith))
    (iff_then
    (iff_under
    (iff_then (given_later _ _ 4 _ 0 (decides_numbers (with_ttrt t most_ttrt)) (omega arith))
    (iff_under (iff_then (given_later _ _ 16 0 0 (decides_in_use t) (omega arith)) ((λ h. h.0), λ m. (m, refl))))))
    ((λ h. record { count = h.0; numbers = h.1.0; in_use_lem = h.1.1 }), λ h. (h.count, (h.numbers, h.in_use_lem))))

-- ---- what is refused whatever TTRT is, test by test

module _ (t : Set) where
  pub judged_count : count_allowed t ≡ false → judged_at_all t ≡ 2
  unfolding judged_at_all
  judged_count h = failed _ _ _ h

  pub judged_number : count_allowed t ≡ true → numbers_allowed (with_ttrt t most_ttrt) ≡ false → judged_at_all t ≡ 4
  unfolding judged_at_all
  judged_number h₂ h₄ = held _ _ _ h₂ ∙ failed _ _ _ h₄

  pub judged_mode : count_allowed t ≡ true → numbers_allowed (with_ttrt t most_ttrt) ≡ true → Retired t → judged_at_all t ≡ 16
  unfolding judged_at_all
  judged_mode h₂ h₄ m = held _ _ _ h₂ ∙ held _ _ _ h₄ ∙ failed _ _ _ (ap not ((decides_fddi t).1 m))

  pub not_tunable : count_allowed t ≡ true → numbers_allowed (with_ttrt t most_ttrt) ≡ true → judged_at_all t ≢ 0 → Retired t
  not_tunable h₂ h₄ n =
      ⊎_elim (λ e. (decides_fddi t).0 e)
      (λ e.
      absurd (n ((judged_tunable t).1 (record { count = (decides_count t).0 h₂; numbers = (decides_numbers (with_ttrt t most_ttrt)).0 h₄; in_use_lem = (decides_not _ _ (decides_fddi t)).0 e }))))
      (true_or_false (is_fddi t))

  -- the numbers of one TTRT are those of another
  pub at_most : (x : ℕ) → NumbersAllowed (with_ttrt t x) → NumbersAllowed (with_ttrt t most_ttrt)
  at_most x all =
      let any : (1 ≤ most_ttrt) × (most_ttrt ≤ most_ttrt) = (omega arith, omega arith) in
      record {
        header = record { ttrt = any; mode = all.header.mode; frame = all.header.frame; grid = all.header.grid };
        stations = all.stations;
      }

  pub at_range : (x : ℕ) → (1 ≤ x) × (x ≤ most_ttrt) → numbers_allowed (with_ttrt t most_ttrt) ≡ true → NumbersAllowed (with_ttrt t x)
  at_range x range e =
      let all = (decides_numbers (with_ttrt t most_ttrt)).0 e in
      record {
        header = record { ttrt = range; mode = all.header.mode; frame = all.header.frame; grid = all.header.grid };
        stations = all.stations;
      }

-- with a plan at some TTRT it is so
pub plan_tunable : (t : Set) (x : ℕ) → (planned_at t x).number ≡ 0 → Tunable t
plan_tunable t x e =
    let h = plan_plannable (with_ttrt t x) e in
    let all = (allowed (with_ttrt t x)).0 h.0 in
    record { count = all.0; numbers = at_most t x all.1.0; in_use_lem = h.1 }

record FitsAt (h : Terms) (c d : List ℕ) (x : ℕ) : Type 0 where
  range : (1 ≤ x) × (x ≤ most_ttrt)
  walk : (1 ≤ h.tau) × (h.tau ≤ x)
  token : needed_at h c d x ≤ x

decides_fits : (h : Terms) (c d : List ℕ) (x : ℕ) → Decides (fits_at h c d x) (FitsAt h c d x)
decides_fits h c d x =
    let all = decides_both _ _ _ _ (decides_both _ _ _ _ (decides_between 1 most_ttrt x) (decides_between 1 x h.tau)) (decides_le (needed_at h c d x) x) in (
      λ e. let f = all.0 e in record { range = f.0.0; walk = f.0.1; token = f.1 },
      λ f. all.1 ((f.range, f.walk), f.token),
    )

pub decides_plan : (t : Set) (x : ℕ) → Decides (has_plan t x) ((planned_at t x).number ≡ 0)
decides_plan t x = (eqb-true _ _, eq-eqb _ _)

module _ (t : Set) (x : ℕ) (h : Tunable t) where
  pub at_numbers : (1 ≤ x) × (x ≤ most_ttrt) → NumbersAllowed (with_ttrt t x)
  at_numbers range = at_range t x range ((decides_numbers (with_ttrt t most_ttrt)).1 h.numbers)

  -- where TTRT and τ are in their ranges, planning answers 6 or a plan
  pub at_plannable : (1 ≤ x) × (x ≤ most_ttrt) → (1 ≤ tau t) × (tau t ≤ x) → Plannable (with_ttrt t x)
  at_plannable range walk = ((allowed (with_ttrt t x)).1 (h.count, (at_numbers range, walk)), h.in_use_lem)

  fits_plan : FitsAt (terms_of t) t.c t.d x → (planned_at t x).number ≡ 0
  fits_plan f = (plan_is (with_ttrt t x) (at_plannable f.range f.walk)).1 f.token

  plan_fits : (planned_at t x).number ≡ 0 → FitsAt (terms_of t) t.c t.d x
  plan_fits e =
      let own = plan_plannable (with_ttrt t x) e in
      let all = (allowed (with_ttrt t x)).0 own.0 in
      record { range = all.1.0.header.ttrt; walk = all.1.1; token = (plan_is (with_ttrt t x) own).0 e }

  -- the plain numbers fit exactly where planning finds a plan
  same_fit : fits_at (terms_of t) t.c t.d x ≡ has_plan t x
  same_fit = same_test _ _ _ _ (decides_fits (terms_of t) t.c t.d x) (decides_plan t x) fits_plan plan_fits

  -- what is left of TTRT is A*
  same_spare : (planned_at t x).number ≡ 0 → x - needed_at (terms_of t) t.c t.d x ≡ spare_at t x
  same_spare e =
      let u = with_ttrt t x in
      let own = plan_plannable u e in
      let sums = sum_same u.n (at (planned_at t x).alloc.s) (smallest_at u) (plan_s u own e) in
      omega (arith, spare_timely u (at (planned_at t x).alloc.s) (use_timely u own.1), sums)

  -- one TTRT tried by plain numbers
  pub same_tried : (k : Tuning) → tried_with (terms_of t) t.c t.d x k ≡ tried_at t x k
  same_tried k =
      ⊎_elim (λ e.
      with_plan_lem (terms_of t) t.c t.d x k (same_fit ∙ e)
      ∙ ap (λ (a : ℕ). counted t.head.ttrt x a k) (same_spare ((decides_plan t x).0 e))
      ∙ sym (tried_plan t x k e))
      (λ e. without_plan (terms_of t) t.c t.d x k (same_fit ∙ e) ∙ sym (tried_none t x k e))
      (true_or_false (has_plan t x))

-- and a range
pub same_over : (t : Set) → Tunable t → (from n : ℕ) (k : Tuning) → tried_over (terms_of t) t.c t.d from n k ≡ tuned_over t from n k
unfolding tried_over tuned_over
same_over t h from zero k = refl
same_over t h from (suc n) k = same_tried t (from + n) h (tried_over (terms_of t) t.c t.d from n k) ∙ ap (tried_at t (from + n)) (same_over t h from n k)

-- ---- any other set has no plan at any TTRT

pub none_over : (t : Set) → ¬ Tunable t → (from n : ℕ) (k : Tuning) → tuned_over t from n k ≡ k
unfolding tuned_over
none_over t none from zero k = refl
none_over t none from (suc n) k =
    tried_none t (from + n) (tuned_over t from n k) ((decides_not _ _ (decides_plan t (from + n))).1 (λ e. none (plan_tunable t (from + n) e))) ∙ none_over t none from n k
