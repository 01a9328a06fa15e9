-- What an S rests on: the definition is handed out where S has 32 bits, as every set's has; below S no multiple of the grid is enough.
use Prim.Native.Nat.{ℕ, zero, suc, ◌+◌, ◌-◌, ◌*◌, ◌≤◌, ◌<◌}
use mathlib.Core.Path.{◌≡◌, refl, sym, ◌∙◌}
use mathlib.Core.Logic.{◌↔◌, ⊎_elim}
use native.Mathlib.Omega.{arith}
use native.Mathlib.Nat.{mul-le-mul_left, mul-le-mul_right, mul-zero, zero-mul, suc-mul, mul_comm, lt-mul-div-succ}
use borrow.Author.Tests.{le-leb, lt-leb}
use Rattle.units.specs.Grid.{MultipleOf}
use Rattle.units.proofs.SmallLaws.{below_or_not, one_more_lem}
use Rattle.units.specs.Places.{at}
use Rattle.units.specs.Vectors.{whole_rotations}
use Rattle.quotients.specs.Division.{Divided}
use Rattle.quotients.proofs.Promised as quotients
use Rattle.sets.proofs.SetLaws.{allowed}
use Rattle.sets.specs.declared.Set.{Set}
use Rattle.plans.specs.Rules.{alpha, least_time, IsSmallest}
use Rattle.plans.specs.Planned.{smallest_for, smallest_at}
use Rattle.plans.proofs.PlanLaws.{smallest_small, rotations_within}
use Rattle.reasons.specs.Shortages.{Plannable}
use Rattle.reasons.specs.Grounds.{most_number, no_grounds, grounds_for, grounds_of, grounds_at, NextSmaller, Shown}
use Rattle.reasons.proofs.PlanningLaws.{stands, stepped_by, plan_s}

-- ---- what is handed out

module _ (grid ttrt c d : ℕ) where
  pub grounds_say : smallest_for grid ttrt c d ≤ most_number → grounds_of grid ttrt c d ≡ grounds_for grid ttrt d (smallest_for grid ttrt c d)
  unfolding grounds_of
  grounds_say l = rw (le-leb _ _ l)

  pub grounds_none : most_number < smallest_for grid ttrt c d → grounds_of grid ttrt c d ≡ no_grounds
  unfolding grounds_of
  grounds_none l = rw (lt-leb _ _ l)

-- α is TTRT less what D / TTRT leaves over
pub alpha_is : (ttrt d m r : ℕ) → Divided d ttrt m r → ttrt - r ≡ alpha ttrt d
alpha_is ttrt d m r both =
    let lacks : ttrt - r ≡ (m + 1) * ttrt - d = omega (arith, one_more_lem m ttrt, (quotients.promised).together d ttrt m r both) in
    lacks ∙ rw both.whole

-- ---- the next smaller multiple

-- a multiple above 0 is at least one step, and one step less is a multiple
step_less : (g s : ℕ) → MultipleOf g s → 0 < s → (g ≤ s) × MultipleOf g (s - g)
step_less g s (zero, e) some = absurd (omega (arith, e, zero-mul g))
step_less g s (suc k, e) some = (omega (arith, e, suc-mul k g), (k, omega (arith, e, suc-mul k g)))

-- no multiple stands between the two
step_next : (g s other : ℕ) → MultipleOf g s → MultipleOf g other → other < s → other ≤ s - g
step_next g s other (k, e) (j, f) less =
    ⊎_elim (λ (b : j < k). let l : (j + 1) * g ≤ k * g = mul-le-mul_right g (omega arith) in omega (arith, one_more_lem j g))
    (λ (b : k ≤ j). let l : k * g ≤ j * g = mul-le-mul_right g b in absurd (omega arith))
    (below_or_not j k)

next_smaller : (g s : ℕ) → 0 < g → MultipleOf g s → 0 < s → NextSmaller g s (s - g)
next_smaller g s some on pos =
    let less = step_less g s on pos in
    record { multiple = less.1; smaller = omega arith; next = λ other m l. step_next g s other on m l }

-- X at 0 is 0, and it never falls
time_none : (ttrt d : ℕ) → least_time ttrt d 0 ≡ 0
time_none ttrt d = omega (arith, mul-zero (whole_rotations ttrt d))

pub time_rises : (ttrt d s z : ℕ) → s ≤ z → least_time ttrt d s ≤ least_time ttrt d z
time_rises ttrt d s z l = omega (arith, mul-le-mul_left (whole_rotations ttrt d) l)

module _ {g ttrt c d s : ℕ} (small : IsSmallest g ttrt c d s) (some : 0 < g) where
  pub below_c : 0 < s → least_time ttrt d (s - g) < c
  below_c pos =
      let less = step_less g s small.multiple pos in
      ⊎_elim (λ (b : least_time ttrt d (s - g) < c). b)
      (λ (b : c ≤ least_time ttrt d (s - g)). let l : s ≤ s - g = small.least (s - g) less.1 b in absurd (omega arith))
      (below_or_not (least_time ttrt d (s - g)) c)

  pub none_is : (s ≡ 0) ↔ (c ≡ 0)
  none_is = (
    (λ (e : s ≡ 0). let l : c ≤ least_time ttrt d 0 = rw e at small.meets in omega (arith, time_none ttrt d)),
    λ (e : c ≡ 0). let l : s ≤ 0 = small.least 0 (0, sym (zero-mul g)) (omega arith) in omega arith,
  )

-- where S is at most TTRT, X is at most D
pub time_within : (ttrt d s : ℕ) → 1 ≤ ttrt → s ≤ ttrt → least_time ttrt d s ≤ d
time_within ttrt d s some l =
    let m = whole_rotations ttrt d in
    let above : d < ttrt * (m + 1) = lt-mul-div-succ d some in
    omega (arith, mul-le-mul_left m l, rotations_within ttrt d, one_more_lem m ttrt, mul_comm ttrt (m + 1))

-- ---- of a set

module _ (t : Set) (h : Plannable t) (i : ℕ) (l : i < t.n) where
  -- every S of a set has 32 bits
  s_small : smallest_at t i ≤ most_number
  s_small =
      let all = ((allowed t).0 h.0).1.0 in
      omega (arith, smallest_small t.head.grid t.head.ttrt (at t.c i) (at t.d i), (all.stations i l).longest, all.header.ttrt.1, all.header.grid.1)

  said : grounds_at t i ≡ grounds_for t.head.grid t.head.ttrt (at t.d i) (smallest_at t i)
  said = grounds_say t.head.grid t.head.ttrt (at t.c i) (at t.d i) s_small

  pub shown : Shown t i (grounds_at t i)
  shown =
      let own = stands t h i in
      let some = stepped_by t h in
      rw said
      record {
        whole = refl;
        alpha = refl;
        smallest = own;
        plan = λ found. plan_s t h found i l;
        time = refl;
        enough = own.meets;
        below = refl;
        not_enough = below_c own some;
        next = next_smaller t.head.grid (smallest_at t i) some own.multiple;
        none = none_is own some;
      }
