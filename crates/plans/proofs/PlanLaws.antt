-- The laws of plans, for the proofs of this layer and those above.
use Prim.Native.Nat.{ℕ, zero, suc, ◌+◌, ◌-◌, ◌*◌, ◌≤◌, ◌<◌}
use mathlib.Core.Path.{◌≡◌, refl, sym, ◌∙◌}
use mathlib.Core.Bool.{true, false, ◌&&◌}
use mathlib.Core.Logic.{◌↔◌, ◌≢◌, ⊎_elim}
use native.Mathlib.Omega.{arith}
use native.Mathlib.Nat.{mul-le-mul_left, div-mul-le_self, zero-mul}
use borrow.Author.Tests.{le-leb, lt-leb, eqb-true, eq-eqb, not-true}
use Rattle.units.specs.Numbers.{most_s, retired, fddi}
use Rattle.units.specs.Grid.{MultipleOf, stepped}
use Rattle.units.proofs.GridLaws.{step_multiple, step_enough, step_least, step_small}
use Rattle.units.specs.Places.{at, sum_below}
use Rattle.units.proofs.PlaceLaws.{decides_all}
use Rattle.units.specs.Judging.{or_else, Decides}
use Rattle.units.proofs.JudgingLaws.{decides_le, decides_both, decides_not, true_or_false, held, failed, given, given_later, not_given, iff_then, iff_under}
use Rattle.sets.specs.Rules.{tau, CountAllowed, WalkTimeAllowed, count_allowed, numbers_allowed, walk_time_allowed}
use Rattle.sets.specs.Judged.{judged_numbers}
use Rattle.sets.proofs.SetLaws.{decides_count, decides_numbers, decides_walk}
use Rattle.sets.specs.declared.Set.{Set}
use Rattle.units.proofs.SmallLaws.{below_or_not, one_more_lem}
use Rattle.fddi.specs.Rules as fddi-rules
use Rattle.units.specs.Vectors.{whole_rotations}
use Rattle.units.proofs.VectorLaws.{decides_rules}
use Rattle.plans.specs.Rules.{alpha, time_with, least_time, is_fddi, Retired, in_use, load_of, terms_of, time_at, left_over, spare_time, AllocInRange, IsSmallest, InRange, KeepsRules, in_range_s, rules_fit, alloc_in_range}
use Rattle.plans.specs.Planned.{smallest_with, smallest_for, judged_plan, blank_alloc, answered}
use Rattle.plans.specs.declared.Alloc.{Alloc}

-- ---- how large the numbers of planning can be

pub rotations_within : (ttrt d : ℕ) → whole_rotations ttrt d * ttrt ≤ d
rotations_within ttrt d = div-mul-le_self d ttrt

pub alpha_small : (ttrt d : ℕ) → alpha ttrt d ≤ ttrt
alpha_small ttrt d =
    omega (arith, one_more_lem (whole_rotations ttrt d) ttrt, rotations_within ttrt d)

-- ---- the formula is the smallest: with the grid, m and α as they come

module _ (g m α c : ℕ) where
  -- whole rotations alone are enough, or the last part counts too
  pub smallest_whole : c ≤ m * α → smallest_with g m α c ≡ stepped g m c
  unfolding smallest_with
  smallest_whole h = rw (le-leb c (m * α) h)

  pub smallest_part : m * α < c → smallest_with g m α c ≡ stepped g (m + 1) (c + α)
  unfolding smallest_with
  smallest_part h = rw (lt-leb c (m * α) h)

  -- what holds of both holds of the smallest
  smallest_each : (P : ℕ → Type 0) → (c ≤ m * α → P (stepped g m c)) → (m * α < c → P (stepped g (m + 1) (c + α))) → P (smallest_with g m α c)
  smallest_each P whole part =
      ⊎_elim (λ (b : m * α < c). rw (smallest_part b) (part b)) (λ (b : c ≤ m * α). rw (smallest_whole b) (whole b)) (below_or_not (m * α) c)

  pub smallest_multiple : MultipleOf g (smallest_with g m α c)
  smallest_multiple = smallest_each (MultipleOf g) (λ _. step_multiple g m c) (λ _. step_multiple g (m + 1) (c + α))

  -- C at most m·α: m of it are enough for C
  whole_enough : 0 < g → c ≤ m * α → c ≤ m * stepped g m c
  whole_enough some h =
      ⊎_elim (λ (pos : 0 < m). step_enough g m c pos some)
      (λ (none : m ≤ 0). let e : m ≡ 0 = omega arith in let z : m * α ≡ 0 = rw e (zero-mul α) in omega arith)
      (below_or_not 0 m)

  pub smallest_meets : 0 < g → c ≤ time_with m α (smallest_with g m α c)
  smallest_meets some =
      smallest_each (λ s. c ≤ time_with m α s) (λ h. omega (arith, whole_enough some h))
      (λ h. omega (arith, step_enough g (m + 1) (c + α) (omega arith) some, one_more_lem m (stepped g (m + 1) (c + α))))

  -- a multiple that meets the rule: m of it are enough for C, and past m·α m + 1 are enough for C + α
  whole_shares : (z : ℕ) → c ≤ m * α → c ≤ time_with m α z → c ≤ m * z
  whole_shares z h meets =
      ⊎_elim (λ (short : z < α). omega arith) (λ (long : α ≤ z). omega (arith, mul-le-mul_left m long)) (below_or_not z α)

  part_shares : (z : ℕ) → m * α < c → c ≤ time_with m α z → c + α ≤ (m + 1) * z
  part_shares z h meets =
      ⊎_elim (λ (short : z < α). let l : m * z ≤ m * α = mul-le-mul_left m (omega arith) in absurd (omega arith))
      (λ (long : α ≤ z). omega (arith, one_more_lem m z))
      (below_or_not z α)

  pub smallest_least : (z : ℕ) → MultipleOf g z → c ≤ time_with m α z → smallest_with g m α c ≤ z
  smallest_least z on meets =
      smallest_each (λ s. s ≤ z) (λ h. step_least g m c z on (whole_shares z h meets))
      (λ h. step_least g (m + 1) (c + α) z on (part_shares z h meets))

  -- it is at most C + α and a step
  smallest_within : smallest_with g m α c ≤ c + α + g
  smallest_within =
      smallest_each (λ s. s ≤ c + α + g) (λ _. omega (arith, step_small g m c)) (λ _. step_small g (m + 1) (c + α))

pub smallest_is : (g ttrt c d : ℕ) → 0 < g → IsSmallest g ttrt c d (smallest_for g ttrt c d)
smallest_is g ttrt c d some =
    record {
      multiple = smallest_multiple g (whole_rotations ttrt d) (alpha ttrt d) c;
      meets = smallest_meets g (whole_rotations ttrt d) (alpha ttrt d) c some;
      least = smallest_least g (whole_rotations ttrt d) (alpha ttrt d) c;
    }

pub smallest_one : (g ttrt c d s : ℕ) → 0 < g → IsSmallest g ttrt c d s → s ≡ smallest_for g ttrt c d
smallest_one g ttrt c d s some h =
    let i = smallest_is g ttrt c d some in
    omega (arith, h.least (smallest_for g ttrt c d) i.multiple i.meets, i.least s h.multiple h.meets)

-- the smallest S is at most C + TTRT and a step
pub smallest_small : (g ttrt c d : ℕ) → smallest_for g ttrt c d ≤ c + ttrt + g
smallest_small g ttrt c d =
    omega (arith, smallest_within g (whole_rotations ttrt d) (alpha ttrt d) c, alpha_small ttrt d)

-- ---- X by the mode

pub time_timely : (t : Set) (s : ℕ → ℕ) (i : ℕ) → is_fddi t ≡ false → time_at t s i ≡ least_time t.head.ttrt (at t.d i) (s i)
unfolding time_at
time_timely t s i h = rw h

pub time_fddi : (t : Set) (s : ℕ → ℕ) (i : ℕ) → is_fddi t ≡ true → time_at t s i ≡ fddi-rules.time_at (load_of t) s i
unfolding time_at
time_fddi t s i h = rw h

-- ---- A* by the mode

pub spare_timely : (t : Set) (s : ℕ → ℕ) → is_fddi t ≡ false → spare_time t s ≡ left_over t s
unfolding spare_time
spare_timely t s h = rw h

pub spare_fddi : (t : Set) (s : ℕ → ℕ) → is_fddi t ≡ true → spare_time t s ≡ t.head.ttrt - tau t - sum_below t.n s
unfolding spare_time
spare_fddi t s h = rw h

-- ---- the test of the range of S decides it

pub decides_alloc : (t : Set) (s : ℕ → ℕ) → Decides (alloc_in_range t s) (AllocInRange t s)
decides_alloc t s = decides_all t.n (in_range_s s) (λ i. s i ≤ most_s) (λ i. decides_le (s i) most_s)

-- ---- whether the mode is still planned and opened

pub decides_fddi : (t : Set) → Decides (is_fddi t) (Retired t)
decides_fddi t = (eqb-true t.head.mode fddi, eq-eqb t.head.mode fddi)

pub decides_in_use : (t : Set) → Decides (in_use t) (¬ Retired t)
decides_in_use t = (λ h. (decides_not _ _ (decides_fddi t)).0 (not-true _ h), λ n. rw ((decides_not _ _ (decides_fddi t)).1 n) refl)

-- it is in use, and not by FDDI's rules
pub use_timely : (t : Set) → ¬ Retired t → is_fddi t ≡ false
use_timely t = (decides_not _ _ (decides_fddi t)).1

-- 16 is given exactly if the mode is retired
pub given_sixteen : (t : Set) (rest : ℕ) → rest ≢ 16 → (or_else (in_use t) retired rest ≡ 16) ↔ Retired t
given_sixteen t rest n = (
  λ h.
      ⊎_elim (λ e. (decides_fddi t).0 e) (λ e. absurd ((given _ _ 16 rest (decides_in_use t) n).0 h ((decides_not _ _ (decides_fddi t)).0 e)))
      (true_or_false (is_fddi t)),
  λ m. failed (in_use t) 16 rest (rw ((decides_fddi t).1 m) refl),
)

-- another number is given exactly if it is in use and the rest gives it
pub past_sixteen : (t : Set) (rest k : ℕ) → 16 ≢ k → (or_else (in_use t) retired rest ≡ k) ↔ (¬ Retired t × (rest ≡ k))
past_sixteen t rest k = given_later (in_use t) (¬ Retired t) 16 rest k (decides_in_use t)

-- ---- the judgement of a given plan, test by test

module _ (t : Set) (a : Alloc) where
  pub given_2 : count_allowed t ≡ false → judged_plan t a ≡ 2
  unfolding judged_plan
  given_2 h₂ = failed _ _ _ h₂

  pub given_4 : count_allowed t ≡ true → (numbers_allowed t && alloc_in_range t (at a.s)) ≡ false → judged_plan t a ≡ 4
  unfolding judged_plan
  given_4 h₂ h₄ = held _ _ _ h₂ ∙ failed _ _ _ h₄

  pub given_5 : count_allowed t ≡ true → (numbers_allowed t && alloc_in_range t (at a.s)) ≡ true → walk_time_allowed t ≡ false → judged_plan t a ≡ 5
  unfolding judged_plan
  given_5 h₂ h₄ h₅ = held _ _ _ h₂ ∙ held _ _ _ h₄ ∙ failed _ _ _ h₅

  pub given_7 : count_allowed t ≡ true → (numbers_allowed t && alloc_in_range t (at a.s)) ≡ true → walk_time_allowed t ≡ true → rules_fit t (at a.s) ≡ false → judged_plan t a ≡ 7
  unfolding judged_plan
  given_7 h₂ h₄ h₅ h₇ = held _ _ _ h₂ ∙ held _ _ _ h₄ ∙ held _ _ _ h₅ ∙ failed _ _ _ h₇

  pub given_0 : count_allowed t ≡ true → (numbers_allowed t && alloc_in_range t (at a.s)) ≡ true → walk_time_allowed t ≡ true → rules_fit t (at a.s) ≡ true → judged_plan t a ≡ 0
  unfolding judged_plan
  given_0 h₂ h₄ h₅ h₇ = held _ _ _ h₂ ∙ held _ _ _ h₄ ∙ held _ _ _ h₅ ∙ held _ _ _ h₇

  -- what the set's count and numbers are refused with is what the plan is refused with
  pub given_early : judged_numbers t ≢ 0 → judged_plan t a ≡ judged_numbers t
  given_early h =
      ⊎_elim
      (λ (c : count_allowed t ≡ true).
      ⊎_elim (λ (n : numbers_allowed t ≡ true). absurd (h (held _ _ _ c ∙ held _ _ _ n)))
      (λ (n : numbers_allowed t ≡ false). given_4 c (rw n refl) ∙ sym (held _ _ _ c ∙ failed _ _ _ n))
      (true_or_false (numbers_allowed t)))
      (λ (c : count_allowed t ≡ false). given_2 c ∙ sym (failed _ _ _ c))
      (true_or_false (count_allowed t))

-- ---- an answer of planning

pub answered_refused : (k : ℕ) (a : Alloc) → k ≢ 0 → answered k a ≡ record { alloc = blank_alloc; number = k }
unfolding answered
answered_refused zero a h = absurd (h refl)
answered_refused (suc k) a h = refl

pub answered_number : (k : ℕ) (a : Alloc) → (answered k a).number ≡ k
unfolding answered
answered_number zero a = refl
answered_number (suc k) a = refl

pub answered_plan : (k : ℕ) (a : Alloc) → k ≡ 0 → answered k a ≡ record { alloc = a; number = 0 }
unfolding answered
answered_plan k a h = rw h

-- ---- the judgement of a given plan, number by number

module _ (t : Set) (a : Alloc) where
  decides_given : Decides (numbers_allowed t && alloc_in_range t (at a.s)) (InRange t a)
  decides_given = decides_both _ _ _ _ (decides_numbers t) (decides_alloc t (at a.s))

  pub given_two : (judged_plan t a ≡ 2) ↔ ¬ CountAllowed t
  unfolding judged_plan
  given_two =
      given _ _ 2 _ (decides_count t)
      (not_given _ 4 _ 2 (omega arith) (not_given _ 5 _ 2 (omega arith) (not_given _ 7 0 2 (omega arith) (omega arith))))

  pub given_four : (judged_plan t a ≡ 4) ↔ (CountAllowed t × ¬ InRange t a)
  unfolding judged_plan
  given_four =
      iff_then (given_later _ _ 2 _ 4 (decides_count t) (omega arith))
      (iff_under (given _ _ 4 _ decides_given (not_given _ 5 _ 4 (omega arith) (not_given _ 7 0 4 (omega arith) (omega arith)))))

  pub given_five : (judged_plan t a ≡ 5) ↔ (CountAllowed t × (InRange t a × ¬ WalkTimeAllowed t))
  unfolding judged_plan
  given_five =
      iff_then (given_later _ _ 2 _ 5 (decides_count t) (omega arith))
      (iff_under
      (iff_then (given_later _ _ 4 _ 5 decides_given (omega arith))
      (iff_under (given _ _ 5 _ (decides_walk t) (not_given _ 7 0 5 (omega arith) (omega arith))))))

  pub given_seven : (judged_plan t a ≡ 7) ↔ (CountAllowed t × (InRange t a × (WalkTimeAllowed t × ¬ KeepsRules t a)))
  unfolding judged_plan
  given_seven =
      iff_then (given_later _ _ 2 _ 7 (decides_count t) (omega arith))
      (iff_under
      (iff_then (given_later _ _ 4 _ 7 decides_given (omega arith))
      (iff_under
      (iff_then (given_later _ _ 5 _ 7 (decides_walk t) (omega arith))
      (iff_under (given _ _ 7 0 (decides_rules (terms_of t) (at a.s)) (omega arith)))))))

  pub given_none : (judged_plan t a ≡ 0) ↔ (CountAllowed t × (InRange t a × (WalkTimeAllowed t × KeepsRules t a)))
  unfolding judged_plan
  given_none =
      iff_then (given_later _ _ 2 _ 0 (decides_count t) (omega arith))
      (iff_under
      (iff_then (given_later _ _ 4 _ 0 decides_given (omega arith))
      (iff_under
      (iff_then (given_later _ _ 5 _ 0 (decides_walk t) (omega arith))
      (iff_under
      (iff_then (given_later _ _ 7 0 0 (decides_rules (terms_of t) (at a.s)) (omega arith)) ((λ h. h.0), λ m. (m, refl))))))))
