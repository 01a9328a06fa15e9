-- What a range shows goes on by one TTRT: the new one is above all that were tried, so each choice stays or is the new one.
use Prim.Native.Nat.{ℕ, zero, suc, ◌+◌, ◌-◌, ◌*◌, ◌≤◌, ◌<◌, min}
use mathlib.Core.Path.{◌≡◌, refl, sym, ap, ◌∙◌}
use mathlib.Core.Bool.{Bool, true, false, cond, ◌&&◌, ◌||◌, true≢false}
use mathlib.Core.Logic.{◌↔◌, ◌≢◌, ◌⊎◌, inl, inr, ⊎_elim}
use native.Mathlib.Numerals.{add-one}
use native.Mathlib.Omega.{arith}
use native.Mathlib.Nat.{mul-le-mul_right, mul-lt-mul_of_pos_right, lt_of_mul-lt-mul_right, mul_right_comm}
use borrow.Author.Tests.{eqb-true, eqb-false, eq-eqb, ne_eqb, ltb-true, ltb-false}
use lib.Dec.{eqb, ltb}
use Rattle.units.specs.Numbers.{most_ttrt}
use Rattle.units.specs.Places.{sum_below}
use Rattle.units.proofs.PlaceLaws.{sum_step, sum_none, sum_part_lem}
use Rattle.units.proofs.JudgingLaws.{true_or_false, and-true, true_and, decides_not}
use Rattle.units.proofs.SmallLaws.{below_or_not}
use Rattle.sets.proofs.SetLaws.{allowed}
use Rattle.sets.specs.declared.Set.{Set}
use Rattle.reasons.proofs.PlanningLaws.{plan_plannable}
use Rattle.tuning.specs.Shown.{PlannedIn, PlannedBelow, PlannedAbove, Chosen, Smaller, Larger, Better, Shown}
use Rattle.tuning.specs.Tunings.{with_ttrt, planned_at, has_plan, spare_at, no_tuning, is_better, counted, tried_at, tuned_over, tuned}
use Rattle.tuning.proofs.ChosenLaws.{either, same, stays, taken}
use Rattle.tuning.proofs.TriedLaws.{decides_plan, tried_plan, tried_none}
use Rattle.tuning.specs.declared.Tuning.{Tuning}

or_false : (a b : Bool) → (a || b) ≡ false → (a ≡ false) × (b ≡ false)
or_false true b e = absurd (true≢false e)
or_false false b e = (refl, e)

or_second : (a b : Bool) → a ≡ false → (a || b) ≡ true → b ≡ true
or_second true b n e = absurd (true≢false n)
or_second false b n e = e

-- a plan's TTRT is in its range
pub ranged : (t : Set) (x : ℕ) → (planned_at t x).number ≡ 0 → (1 ≤ x) × (x ≤ most_ttrt)
ranged t x e = let h = plan_plannable (with_ttrt t x) e in ((allowed (with_ttrt t x)).0 h.0).1.0.header.ttrt

-- one for each that has a plan
abbrev ones : Set → ℕ → ℕ → ℕ
ones t from i = cond (has_plan t (from + i)) 1 0

at_most_one : (b : Bool) → cond b 1 0 ≤ 1
at_most_one true = omega arith
at_most_one false = omega arith

-- TTRT 0 has none
none_at_zero : (t : Set) (from n : ℕ) → from + n ≡ 0 → ones t from n ≡ 0
none_at_zero t from n e =
    let none : has_plan t (from + n) ≡ false = (decides_not _ _ (decides_plan t (from + n))).1 (λ p. omega (arith, (ranged t (from + n) p).0)) in
    rw none refl

-- fewer than the next TTRT
few_ones : (t : Set) (from n : ℕ) → sum_below n (ones t from) ≤ from + n - 1
unfolding sum_below
few_ones t from zero = omega arith
few_ones t from (suc n) =
    ⊎_elim (λ (l : 0 < from + n). omega (arith, few_ones t from n, at_most_one (has_plan t (from + n))))
    (λ (l : from + n ≤ 0). omega (arith, few_ones t from n, none_at_zero t from n (omega arith)))
    (below_or_not 0 (from + n))

module _ (t : Set) (from n : ℕ) where
  -- ---- who is in the range with one more

  later : (x : ℕ) → PlannedIn t from n x → PlannedIn t from (n + 1) x
  later x h = record { first = h.first; last = omega (arith, h.last); plan = h.plan }

  split : (x : ℕ) → PlannedIn t from (n + 1) x → PlannedIn t from n x ⊎ (x ≡ from + n)
  split x h =
      ⊎_elim (λ (l : x < from + n). inl (record { first = h.first; last = l; plan = h.plan }))
      (λ (l : from + n ≤ x). inr (omega (arith, h.last)))
      (below_or_not x (from + n))

  split_below : (x : ℕ) → PlannedBelow t from (n + 1) x → PlannedBelow t from n x ⊎ (x ≡ from + n)
  split_below x h = ⊎_elim (λ p. inl (p, h.1)) inr (split x h.0)

  split_above : (x : ℕ) → PlannedAbove t from (n + 1) x → PlannedAbove t from n x ⊎ (x ≡ from + n)
  split_above x h = ⊎_elim (λ p. inl (p, h.1)) inr (split x h.0)

  -- the new one has no plan
  none_more : has_plan t (from + n) ≡ false → (x : ℕ) → PlannedIn t from (n + 1) x → PlannedIn t from n x
  none_more e x h =
      ⊎_elim (λ p. p) (λ (is : x ≡ from + n). absurd ((decides_not _ _ (decides_plan t (from + n))).0 e (rw is at h.plan))) (split x h)

-- ---- the larger part

-- x's part is at most r's, and r's is below z's: so x's is below z's
below_part_lem : (sx sr sz x r z : ℕ) → 0 < x → sx * r ≤ sr * x → sr * z < sz * r → sx * z < sz * x
below_part_lem sx sr sz x r z some h l =
    let more : sr * z * x < sz * r * x = mul-lt-mul_of_pos_right l some in
    let all : sx * z * r < sz * x * r =
    omega (arith, mul_right_comm sx z r, mul-le-mul_right z h, mul_right_comm sr x z, more, mul_right_comm sz r x) in
    lt_of_mul-lt-mul_right r all

module _ (t : Set) (from n : ℕ) (k : Tuning) (s : Shown t from n k) (found : has_plan t (from + n) ≡ true) where
  here : PlannedIn t from (n + 1) (from + n)
  here = record { first = omega arith; last = omega arith; plan = (decides_plan t (from + n)).0 found }

  some : 0 < from + n
  some = (ranged t (from + n) here.plan).0

  -- whoever was there is smaller
  smaller : (x : ℕ) → PlannedIn t from n x → x ≤ from + n
  smaller x h = omega (arith, h.last)

  positive : {r : ℕ} → r ≢ 0 → 0 < r
  positive {r} f = omega arith

  smallest : Chosen (PlannedIn t from (n + 1)) Smaller (cond (eqb k.smallest 0) (from + n) k.smallest)
  smallest =
      either (Chosen (PlannedIn t from (n + 1)) Smaller) (eqb k.smallest 0) (from + n) k.smallest
      (λ e. taken (from + n) (split t from n) here some (omega arith) (λ x h. absurd (s.smallest.none (eqb-true _ _ e) x h)))
      (λ e.
      let l : 0 < k.smallest = positive (eqb-false _ _ e) in
      stays (from + n) (split t from n) (later t from n) l (smaller _ (s.smallest.one l)) s.smallest)

  largest : Chosen (PlannedIn t from (n + 1)) Larger (from + n)
  largest = taken (from + n) (split t from n) here some (omega arith) smaller

  below : Chosen (PlannedBelow t from (n + 1)) Larger (cond (ltb (from + n) t.head.ttrt) (from + n) k.below)
  below =
      either (Chosen (PlannedBelow t from (n + 1)) Larger) (ltb (from + n) t.head.ttrt) (from + n) k.below
      (λ e. taken (from + n) (split_below t from n) (here, ltb-true _ _ e) some (omega arith) (λ x h. smaller x h.0))
      (λ e.
      same (λ x h. (later t from n x h.0, h.1))
      (λ x h. ⊎_elim (λ p. p) (λ (is : x ≡ from + n). absurd (omega (arith, ltb-false (from + n) t.head.ttrt e, h.1))) (split_below t from n x h)) s.below)

  above : Chosen (PlannedAbove t from (n + 1)) Smaller (cond (ltb t.head.ttrt (from + n) && eqb k.above 0) (from + n) k.above)
  above =
      let is-above = ltb t.head.ttrt (from + n) in
      let none = eqb k.above 0 in
      either (Chosen (PlannedAbove t from (n + 1)) Smaller) (is-above && none) (from + n) k.above
      (λ e.
      let both = and-true is-above none e in
      taken (from + n) (split_above t from n) (here, ltb-true _ _ both.0) some (omega arith) (λ x h. absurd (s.above.none (eqb-true _ _ both.1) x h)))
      (λ e.
      ⊎_elim (λ (l : 0 < k.above).
      stays (from + n) (split_above t from n) (λ x h. (later t from n x h.0, h.1)) l (smaller _ (s.above.one l).0) s.above)
      (λ (l : k.above ≤ 0).
      let out : is-above ≡ false =
      ⊎_elim (λ (a : is-above ≡ true). absurd (true≢false (sym (true_and is-above none a (eq-eqb k.above 0 (omega arith))) ∙ e))) (λ a. a) (true_or_false is-above) in
      same (λ x h. (later t from n x h.0, h.1))
      (λ x h. ⊎_elim (λ p. p) (λ (is : x ≡ from + n). absurd (omega (arith, ltb-false t.head.ttrt (from + n) out, h.1))) (split_above t from n x h)) s.above)
      (below_or_not 0 k.above))

  -- the first is the best
  best_first : k.best ≡ 0 → Chosen (PlannedIn t from (n + 1)) (Better t) (from + n)
  best_first e =
      taken (from + n) (split t from n) here some (record { part = omega arith; smallest = λ _. omega arith }) (λ x h. absurd (s.best.none e x h))

  -- a better one: it is better than all of which the best so far was the best
  best_taken : 0 < k.best → k.spare * (from + n) < spare_at t (from + n) * k.best → Chosen (PlannedIn t from (n + 1)) (Better t) (from + n)
  best_taken l h =
      let own : k.spare * (from + n) ≡ spare_at t k.best * (from + n) = ap (λ (a : ℕ). a * (from + n)) (s.spare l) in
      taken (from + n) (split t from n) here some (record { part = omega arith; smallest = λ _. omega arith })
      (λ x p.
      let less =
      below_part_lem (spare_at t x) (spare_at t k.best) (spare_at t (from + n)) x k.best (from + n) (ranged t x p.plan).0 (s.best.first x p).part
      (omega (arith, own)) in
      record { part = omega (arith, less); smallest = λ e. absurd (omega (arith, less)) })

  -- no better one
  best_stays : 0 < k.best → spare_at t (from + n) * k.best ≤ k.spare * (from + n) → Chosen (PlannedIn t from (n + 1)) (Better t) k.best
  best_stays l h =
      let own : k.spare * (from + n) ≡ spare_at t k.best * (from + n) = ap (λ (a : ℕ). a * (from + n)) (s.spare l) in
      stays (from + n) (split t from n) (later t from n) l (record { part = omega (arith, own); smallest = λ _. smaller _ (s.best.one l) }) s.best

  best : Chosen (PlannedIn t from (n + 1)) (Better t) (cond (is_better (from + n) (spare_at t (from + n)) k) (from + n) k.best)
  best =
      either (Chosen (PlannedIn t from (n + 1)) (Better t)) (is_better (from + n) (spare_at t (from + n)) k) (from + n) k.best
      (λ e.
      ⊎_elim (λ (l : 0 < k.best).
      best_taken l (ltb-true _ _ (or_second (eqb k.best 0) _ (ne_eqb k.best 0 (λ z. omega arith)) e)))
      (λ (l : k.best ≤ 0). best_first (omega arith))
      (below_or_not 0 k.best))
      (λ e.
      let both = or_false (eqb k.best 0) _ e in
      best_stays (positive (eqb-false _ _ both.0)) (ltb-false _ _ both.1))

  spare_of : (b : Bool) → 0 < cond b (from + n) k.best → cond b (spare_at t (from + n)) k.spare ≡ spare_at t (cond b (from + n) k.best)
  spare_of true l = refl
  spare_of false l = s.spare l

  count : min (k.count + 1) most_ttrt ≡ sum_below (n + 1) (ones t from)
  count =
      let one : ones t from n ≡ 1 = rw found refl in
      omega (arith, s.count, few_ones t from n, some, (ranged t (from + n) here.plan).1, sum_step n (ones t from), one)

  pub with_plan_lem : Shown t from (n + 1) (counted t.head.ttrt (from + n) (spare_at t (from + n)) k)
  unfolding counted
  with_plan_lem =
      record {
        count = count;
        smallest = smallest;
        largest = largest;
        below = below;
        above = above;
        best = best;
        spare = spare_of (is_better (from + n) (spare_at t (from + n)) k);
      }

module _ (t : Set) (from n : ℕ) (k : Tuning) (s : Shown t from n k) (none : has_plan t (from + n) ≡ false) where
  without_plan : Shown t from (n + 1) k
  without_plan =
      let back = none_more t from n none in
      let there = later t from n in
      let zero : ones t from n ≡ 0 = rw none refl in
      record {
        count = omega (arith, s.count, sum_step n (ones t from), zero);
        smallest = same there back s.smallest;
        largest = same there back s.largest;
        below = same (λ x h. (there x h.0, h.1)) (λ x h. (back x h.0, h.1)) s.below;
        above = same (λ x h. (there x h.0, h.1)) (λ x h. (back x h.0, h.1)) s.above;
        best = same there back s.best;
        spare = s.spare;
      }

-- one TTRT more
goes_on : (t : Set) (from n : ℕ) (k : Tuning) → Shown t from n k → Shown t from (n + 1) (tried_at t (from + n) k)
goes_on t from n k s =
    ⊎_elim (λ e. rw (tried_plan t (from + n) k e) (with_plan_lem t from n k s e)) (λ e. rw (tried_none t (from + n) k e) (without_plan t from n k s e))
    (true_or_false (has_plan t (from + n)))

-- nothing is chosen of nothing
nothing : {P : ℕ → Type 0} {before : ℕ → ℕ → Type 0} → ((x : ℕ) → ¬ P x) → Chosen P before 0
nothing no_one = record { one = λ l. absurd (omega arith); none = λ e. no_one; first = λ x p. absurd (no_one x p) }

begins : (t : Set) (from : ℕ) → Shown t from 0 no_tuning
begins t from =
    let no_one : (x : ℕ) → ¬ PlannedIn t from 0 x = λ x h. omega (arith, h.first, h.last) in
    record {
      count = sym (sum_none (ones t from));
      smallest = nothing no_one;
      largest = nothing no_one;
      below = nothing (λ x h. no_one x h.0);
      above = nothing (λ x h. no_one x h.0);
      best = nothing no_one;
      spare = λ l. absurd (omega arith);
    }

pub shown : (t : Set) (from n : ℕ) → Shown t from n (tuned t from n)
unfolding tuned_over
shown t from zero = begins t from
shown t from (suc n) = rw add-one at (goes_on t from n (tuned t from n) (shown t from n))

pub joined : (t : Set) (from a b : ℕ) (k : Tuning) → tuned_over t (from + a) b (tuned_over t from a k) ≡ tuned_over t from (a + b) k
unfolding tuned_over
joined t from a zero k = let e : a ≡ a + 0 = omega arith in ap (λ (n : ℕ). tuned_over t from n k) e
joined t from a (suc b) k =
    let place : from + a + b ≡ from + (a + b) = omega arith in
    let whole : suc (a + b) ≡ a + suc b = omega arith in
    ap (tried_at t (from + a + b)) (joined t from a b k)
    ∙ ap (λ (x : ℕ). tried_at t x (tuned_over t from (a + b) k)) place
    ∙ ap (λ (n : ℕ). tuned_over t from n k) whole

-- ---- none

no_ones : (t : Set) (from n : ℕ) → ((i : ℕ) → i < n → ones t from i ≡ 0) → sum_below n (ones t from) ≡ 0
unfolding sum_below
no_ones t from zero h = refl
no_ones t from (suc n) h = omega (arith, no_ones t from n (λ i l. h i (omega arith)), h n (omega arith))

pub none_counted : (t : Set) (from n : ℕ) → ((tuned t from n).count ≡ 0) ↔ ((x : ℕ) → ¬ PlannedIn t from n x)
none_counted t from n = (
  λ e x h.
      let i = x - from in
      let place : from + i ≡ x = omega (arith, h.first) in
      let one : ones t from i ≡ 1 = rw (place, (decides_plan t x).1 h.plan) refl in
      let part : ones t from i ≤ sum_below n (ones t from) = sum_part_lem n (ones t from) i (omega (arith, h.first, h.last)) in
      omega (arith, (shown t from n).count, one, part),
  λ none.
      (shown t from n).count
      ∙ no_ones t from n (λ i l.
      let plain : has_plan t (from + i) ≡ false =
      (decides_not _ _ (decides_plan t (from + i))).1 (λ p. none (from + i) (record { first = omega arith; last = omega arith; plan = p })) in
      rw plain refl),
)
