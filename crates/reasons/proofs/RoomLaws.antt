-- The room that is left to a station: with another C at one station only that station's S changes, so the token rule holds exactly if this S is within what the others leave; and on the grid it is, exactly if C is at most X at the largest multiple there.
use Prim.Native.Nat.{ℕ, zero, suc, ◌+◌, ◌-◌, ◌*◌, ◌/◌, ◌≤◌, ◌<◌}
use mathlib.Core.Path.{◌≡◌, refl, sym, ap, ◌∙◌}
use mathlib.Core.Bool.{true, false}
use mathlib.Core.Logic.{◌↔◌, ◌≢◌, ⊎_elim}
use native.Mathlib.Omega.{arith}
use native.Mathlib.Nat.{mul-le-mul_right, div-lt_iff_lt-mul, div-mul-le_self}
use lib.ListN.{length, set}
use lib.Seq.{get_or-set_same, get_or-set_other}
use borrow.Author.Tests.{eqb-true, eqb-false, eq-eqb}
use lib.Dec.{eqb}
use Rattle.units.specs.Numbers.{most_c, most_stations}
use Rattle.units.specs.Grid.{MultipleOf}
use Rattle.units.proofs.JudgingLaws.{decides_both, true_or_false, iff_then}
use Rattle.units.proofs.SmallLaws.{below_or_not}
use Rattle.units.specs.Places.{at, sum_below, fill, zeros}
use Rattle.units.proofs.PlaceLaws.{sum_part_lem, sum_same, set_each, fill_inside}
use Rattle.units.specs.Vectors.{TokenKept}
use Rattle.sets.specs.Rules.{NumbersAllowed}
use Rattle.sets.specs.Judged.{judged}
use Rattle.sets.proofs.SetLaws.{allowed}
use Rattle.sets.specs.declared.Set.{Set}
use Rattle.plans.specs.Rules.{lost, least_time, IsSmallest}
use Rattle.plans.specs.Planned.{smallest_at, planned}
use Rattle.plans.proofs.Promised as plans
use Rattle.reasons.specs.Shortages.{Plannable, shortage_of}
use Rattle.reasons.specs.Bounds.{Roomy}
use Rattle.reasons.specs.Rooms.{left_for, largest_with, largest_c, fits, rooms_of, with_longest, Largest}
use Rattle.reasons.specs.declared.Rooms.{Rooms}
use Rattle.reasons.proofs.PlanningLaws.{decides_plannable, plan_plannable, few, stepped_by, stands, six_is, plan_is}
use Rattle.reasons.proofs.ShortageLaws as shortages
use Rattle.reasons.proofs.GroundLaws.{time_rises, time_within}

-- ---- what is handed out

pub rooms_say : (t : Set) → fits t ≡ true → rooms_of t ≡ record { c = fill t.n (largest_c t) zeros }
unfolding rooms_of
rooms_say t e = rw e

pub rooms_none : (t : Set) → fits t ≡ false → rooms_of t ≡ record { c = zeros }
unfolding rooms_of
rooms_none t e = rw e

pub decides_fits : (t : Set) → (fits t ≡ true) ↔ ((planned t).number ≡ 0)
decides_fits t =
    let both = decides_both _ _ _ _ (decides_plannable t) (eqb-true (shortage_of t).missing 0, eq-eqb (shortage_of t).missing 0) in (
      λ e. let b = both.0 e in (shortages.plan t b.0).1 b.1,
      λ found. let p = plan_plannable t found in both.1 (p, (shortages.plan t p).0 found),
    )

-- ---- over numbers

-- a multiple is within what is left exactly if it is within the largest multiple there
on_grid_within : (g s left : ℕ) → 0 < g → MultipleOf g s → (s ≤ left) ↔ (s ≤ left / g * g)
on_grid_within g s left some (k, e) = (
  (λ (l : s ≤ left).
      ⊎_elim (λ (b : left / g < k). let a : left < k * g = (div-lt_iff_lt-mul some).0 b in absurd (omega arith))
      (λ (b : k ≤ left / g). let m : k * g ≤ left / g * g = mul-le-mul_right g b in omega arith)
      (below_or_not (left / g) k)),
  λ (l : s ≤ left / g * g). omega (arith, div-mul-le_self left g),
)

-- the smallest S for C is within what is left exactly if C is at most X at the largest multiple there
smallest_within : (g ttrt c d s left : ℕ) → 0 < g → IsSmallest g ttrt c d s → (s ≤ left) ↔ (c ≤ largest_with g ttrt d left)
smallest_within g ttrt c d s left some small =
    let top = left / g * g in
    iff_then (on_grid_within g s left some small.multiple) (
      (λ (l : s ≤ top). omega (arith, small.meets, time_rises ttrt d s top l)),
      λ (l : c ≤ least_time ttrt d top). small.least top (left / g, refl) l,
    )

-- two sums that differ at one place alone
sum_swap : (n : ℕ) (f g : ℕ → ℕ) (i : ℕ) → i < n → ((j : ℕ) → j ≢ i → f j ≡ g j) → sum_below n f + g i ≡ sum_below n g + f i
unfolding sum_below
sum_swap zero f g i l each = absurd (omega arith)
sum_swap (suc n) f g i l each =
    ⊎_elim (λ (b : i < n).
    let e : f n ≡ g n = each n (omega arith) in
    omega (arith, sum_swap n f g i b each))
    (λ (b : n ≤ i).
    let e : i ≡ n = omega arith in
    let same : sum_below n f ≡ sum_below n g = sum_same n f g (λ j k. each j (omega arith)) in
    rw e (omega arith))
    (below_or_not i n)

-- ---- another C at station i

module _ (t : Set) (found : (planned t).number ≡ 0) (long : length t.c ≡ most_stations) (i : ℕ) (l : i < t.n) where
  h : Plannable t
  h = plan_plannable t found

  own_place : (x : ℕ) → at (set t.c i x) i ≡ x
  own_place x = get_or-set_same t.c i x 0 (omega (arith, few t h))

  changed_plannable : (x : ℕ) → x ≤ most_c → Plannable (with_longest t i x)
  changed_plannable x small =
      let all = (allowed t).0 h.0 in
      let each = all.1.0.stations in
      let numbers : NumbersAllowed (with_longest t i x) =
      record {
        header = all.1.0.header;
        stations = λ j k.
            record {
              walk = (each j k).walk;
              longest = set_each t.c i j x (λ y. y ≤ most_c) (each j k).longest (λ _. small);
              deadline = (each j k).deadline;
              gap = (each j k).gap;
            };
      } in
      ((allowed (with_longest t i x)).1 (all.0, (numbers, all.1.1)), h.1)

  -- a C out of range is refused
  in_range : (x : ℕ) → (planned (with_longest t i x)).number ≡ 0 → x ≤ most_c
  in_range x e =
      let u = with_longest t i x in
      ⊎_elim (λ k. rw (own_place x) at (((allowed u).0 (eqb-true (judged u) 0 k)).1.0.stations i l).longest)
      (λ k. absurd (eqb-false (judged u) 0 k (sym ((plans.promised).refused_set u (eqb-false (judged u) 0 k)) ∙ e)))
      (true_or_false (eqb (judged u) 0))

  -- the sum of the smallest S, but for station i
  others : (x : ℕ) → let u = with_longest t i x in sum_below t.n (smallest_at t) + smallest_at u i ≡ sum_below t.n (smallest_at u) + smallest_at t i
  others x =
      let u = with_longest t i x in
      sum_swap t.n (smallest_at t) (smallest_at u) i l (λ j off. rw (get_or-set_other t.c i j x 0 off) refl)

  token_is : (x : ℕ) → let u = with_longest t i x in TokenKept t.head.ttrt (lost t) t.n (smallest_at u) ↔ (smallest_at u i ≤ left_for t i)
  token_is x =
      let u = with_longest t i x in
      let kept : TokenKept t.head.ttrt (lost t) t.n (smallest_at t) = (plan_is t h).0 found in
      let part : smallest_at t i ≤ sum_below t.n (smallest_at t) = sum_part_lem t.n (smallest_at t) i l in
      ((λ k. omega (arith, others x)), λ k. omega (arith, others x))

  changed_is : (x : ℕ) → x ≤ most_c → TokenKept t.head.ttrt (lost t) t.n (smallest_at (with_longest t i x)) ↔ (x ≤ largest_c t i)
  changed_is x small =
      let u = with_longest t i x in
      let own = rw (own_place x) at (stands u (changed_plannable x small) i) in
      iff_then (token_is x) (rw (own_place x) (smallest_within t.head.grid t.head.ttrt x (at t.d i) _ (left_for t i) (stepped_by t h) own))

  largest_within : largest_c t i ≤ at t.d i
  largest_within =
      let all = ((allowed t).0 h.0).1.0 in
      let top : left_for t i / t.head.grid * t.head.grid ≤ left_for t i = div-mul-le_self (left_for t i) t.head.grid in
      time_within t.head.ttrt (at t.d i) (left_for t i / t.head.grid * t.head.grid) all.header.ttrt.0 (omega arith)

  pub largest : Largest t i (at (rooms_of t).c i)
  largest =
      let all = ((allowed t).0 h.0).1.0 in
      let filled : at (rooms_of t).c i ≡ largest_c t i =
      ap (λ (r : Rooms). at r.c i) (rooms_say t ((decides_fits t).1 found)) ∙ fill_inside t.n (largest_c t) zeros i l (few t h) in
      let top : largest_c t i ≤ most_c = omega (arith, largest_within, (all.stations i l).deadline.1) in
      rw filled
      record {
        exact = λ c. (
          (λ e. let small = in_range c e in (changed_is c small).0 ((plan_is (with_longest t i c) (changed_plannable c small)).0 e)),
          λ (k : c ≤ largest_c t i). let small : c ≤ most_c = omega arith in (plan_is (with_longest t i c) (changed_plannable c small)).1 ((changed_is c small).1 k),
        );
        six = λ c (above : largest_c t i < c) small. (six_is (with_longest t i c) (changed_plannable c small)).1 (λ k. let w : c ≤ largest_c t i = (changed_is c small).0 k in omega arith);
        never_above = largest_within;
        never_below = (smallest_within t.head.grid t.head.ttrt (at t.c i) (at t.d i) (smallest_at t i) (left_for t i) (stepped_by t h) (stands t h i)).0 (omega (arith, (plan_is t h).0 found, sum_part_lem t.n (smallest_at t) i l));
      }

-- ---- what is spare

module _ (t : Set) (spare : ℕ) (room : Roomy t spare) where
  -- a station's own S and what is spare are what the others leave to it
  pub roomy_left : (i : ℕ) → i < t.n → smallest_at t i + spare ≡ left_for t i
  roomy_left i l = omega (arith, room.left_over_lem, sum_part_lem t.n (smallest_at t) i l)

  pub roomy_within : (i : ℕ) → i < t.n → smallest_at t i + spare ≤ t.head.ttrt
  roomy_within i l = omega (arith, room.left_over_lem, sum_part_lem t.n (smallest_at t) i l)

  pub roomy_fits : fits t ≡ true
  roomy_fits =
      let token : TokenKept t.head.ttrt (lost t) t.n (smallest_at t) = omega (arith, room.left_over_lem) in
      (decides_fits t).1 ((plan_is t room.plannable).1 token)

-- a set that fits has what is available less the sum of S to spare
pub spare_left : (t : Set) → fits t ≡ true → ((shortage_of t).sum ≤ (shortage_of t).available) × Roomy t ((shortage_of t).available - (shortage_of t).sum)
spare_left t e =
    let found = (decides_fits t).0 e in
    let p = plan_plannable t found in
    let token = (plan_is t p).0 found in
    rw (shortages.said t p) (omega (arith, token), record { plannable = p; left_over_lem = omega (arith, token) })
