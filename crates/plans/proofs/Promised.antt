-- Planning keeps its promises because 16 is asked for behind the set's own numbers, and the smallest S are at most every vector that meets the rules, and meet them where any does.
use Prim.Native.Nat.{ℕ, ◌-◌, ◌*◌, ◌≤◌, ◌<◌, min}
use mathlib.Core.Path.{◌≡◌, refl, sym, ap, ◌∙◌}
use mathlib.Core.Bool.{true, false, true≢false}
use mathlib.Core.List.{List}
use mathlib.Core.Logic.{◌↔◌, ◌≢◌, ⊎_elim}
use native.Mathlib.Omega.{arith}
use native.Mathlib.Nat.{div-zero, one-mul, mul-zero, mul-le-mul_left}
use borrow.Author.Tests.{ne_eqb}
use Rattle.units.specs.Numbers.{fddi}
use Rattle.units.specs.Small.{rounded_up}
use Rattle.units.specs.Grid.{stepped}
use Rattle.units.proofs.GridLaws.{every_multiple, step_enough, step_least}
use Rattle.units.specs.Places.{at}
use Rattle.units.specs.Judging.{or_else}
use Rattle.units.proofs.JudgingLaws.{true_or_false, decides_not, held, not_given, given, given_later}
use Rattle.sets.specs.Rules.{CountAllowed, NumbersAllowed, WalkTimeAllowed, count_allowed, numbers_allowed, walk_time_allowed}
use Rattle.sets.specs.Judged.{judged, judged_then}
use Rattle.sets.proofs.SetLaws.{decides_count, decides_numbers, decides_walk, allowed, judged_two, judged_four, judged_five, judged_later}
use Rattle.sets.specs.declared.Set.{Set}
use Rattle.units.specs.Vectors.{whole_rotations}
use Rattle.units.proofs.VectorLaws.{decides_rules, least_one}
use Rattle.plans.specs.Rules.{alpha, least_time, time_at, terms_of, MeetsDeadline, MeetsDeadlines, MeetsToken, MeetsRules, IsSmallest, is_fddi, Retired, in_use}
use Rattle.plans.specs.Planned.{smallest_for, smallest_alloc, smallest_fits, blank_alloc, plan_number, answered, planned}
use Rattle.plans.specs.Answer.{IsPlan, Fitting}
use Rattle.plans.specs.Promised.{fddi_time, SmallestOfAll, KeptBy, Promised}
use Rattle.plans.proofs.PlanLaws as laws
use Rattle.plans.proofs.PlanLaws.{smallest_multiple, smallest_meets, smallest_least, smallest_is, smallest_one, decides_fddi, decides_in_use, use_timely, given_sixteen, past_sixteen, answered_number, answered_refused, given_two, given_four, given_five, given_seven, given_none}
use Rattle.plans.proofs.LeastLaws.{from_load, to_load, smallest_stands, smallest_needed, plan_refused_set, plan_retired, plan_none, plan_found, plan_judged, is_plan_lem}
use Rattle.plans.proofs.LeavingLaws.{leaves_fddi}
use Rattle.plans.proofs.SameLaws.{planned_same, judged_plan_same}
use Rattle.plans.specs.declared.Planned.{Planned}

-- ---- X by the mode

time_timely : (t : Set) (s : ℕ → ℕ) (i : ℕ) → t.head.mode ≢ fddi → time_at t s i ≡ least_time t.head.ttrt (at t.d i) (s i)
time_timely t s i m = laws.time_timely t s i (ne_eqb _ _ m)

time_fddi : (t : Set) (s : ℕ → ℕ) (i : ℕ) → t.n ≤ 128 → t.head.mode ≡ fddi → time_at t s i ≡ fddi_time t s i
time_fddi t s i few m =
    let all : min t.n 128 ≡ t.n = omega arith in
    laws.time_fddi t s i (rw m refl) ∙ rw all

-- ---- the smallest S

-- a larger S meets the deadline rule too
meets_more : (ttrt c d s z : ℕ) → s ≤ z → MeetsDeadline ttrt c d s → MeetsDeadline ttrt c d z
meets_more ttrt c d s z l h = omega (arith, mul-le-mul_left (whole_rotations ttrt d) l)

-- of two grids' smallest: the multiple that the smallest of all is rounded up to
rounded : (g ttrt c d : ℕ) → 0 < g → smallest_for g ttrt c d ≡ rounded_up (smallest_for 1 ttrt c d) g * g
rounded g ttrt c d some =
    let s = smallest_for 1 ttrt c d in
    let own = smallest_is 1 ttrt c d (omega arith) in
    let wide = smallest_is g ttrt c d some in
    let once : stepped g 1 s ≡ rounded_up s g * g = rw (one-mul g) refl in
    let up : s ≤ rounded_up s g * g = omega (arith, step_enough g 1 s (omega arith) some) in
    omega (
      arith,
      once,
      step_least g 1 s (smallest_for g ttrt c d) wide.multiple (omega (arith, own.least (smallest_for g ttrt c d) (every_multiple (smallest_for g ttrt c d)) wide.meets)),
      wide.least (rounded_up s g * g) (rounded_up s g, refl) (meets_more ttrt c d s (rounded_up s g * g) up own.meets),
    )

every_number : (ttrt c d s : ℕ) → IsSmallest 1 ttrt c d s ↔ SmallestOfAll ttrt c d s
every_number ttrt c d s = (
  λ h. record { meets = h.meets; least = λ z m. h.least z (every_multiple z) m },
  λ h. record { multiple = every_multiple s; meets = h.meets; least = λ z _ m. h.least z m },
)

no_grid : (t : Set) (s : ℕ → ℕ) → t.head.grid ≡ 1 → MeetsRules t s ↔ (MeetsDeadlines t s × MeetsToken t s)
no_grid t s one = (
  λ m. (m.deadlines, m.token),
  λ m. record { deadlines = m.0; token = m.1; grid = λ i l. rw one (every_multiple (s i)) },
)

grid_zero : (ttrt c d : ℕ) → smallest_for 0 ttrt c d ≡ 0
grid_zero ttrt c d = (smallest_multiple 0 (whole_rotations ttrt d) (alpha ttrt d) c).1 ∙ mul-zero _

at_zero : (g c d : ℕ) → 0 < g → smallest_for g 0 c d ≡ rounded_up c g * g
at_zero g c d some =
    let none : 0 - d ≡ 0 = omega arith in
    let same : smallest_for 1 0 c d ≡ c = rw (div-zero d, none) (omega (arith, smallest_meets 1 0 0 c (omega arith), smallest_least 1 0 0 c c (every_multiple c) (omega arith))) in
    rounded g 0 c d some ∙ rw same

-- ---- 16, 6, and the plan

module _ (t : Set) where
  -- past 2, 4 and 5: the set is judged 0, and what planning then says
  said_later : (k : ℕ) → 2 ≢ k → 4 ≢ k → 5 ≢ k → (planned t).number ≡ k → (judged t ≡ 0) × (or_else (in_use t) 16 (or_else (smallest_fits t) 6 0) ≡ k)
  said_later k n₂ n₄ n₅ h = (judged_later t _ k n₂ n₄ n₅).0 (sym (answered_number (plan_number t) (smallest_alloc t)) ∙ h)

  sixteen : ((planned t).number ≡ 16) ↔ ((judged t ≡ 0) × Retired t)
  sixteen = (
    λ h. let said = said_later 16 (omega arith) (omega arith) (omega arith) h in (said.0, (given_sixteen t _ (not_given _ 6 0 16 (omega arith) (omega arith))).0 said.1),
    λ h. ap (λ (a : Planned). a.number) (plan_retired t h.0 ((decides_fddi t).1 h.1)),
  )

  six_says : (planned t).number ≡ 6 → (judged t ≡ 0) × (¬ Retired t × (smallest_fits t ≡ false))
  six_says h =
      let said = said_later 6 (omega arith) (omega arith) (omega arith) h in
      let past = (past_sixteen t _ 6 (omega arith)).0 said.1 in
      let d = decides_rules (terms_of t) (at (smallest_alloc t).s) in
      (said.0, (past.0, (decides_not _ _ d).1 ((given _ _ 6 0 d (omega arith)).0 past.1)))

  plan_says : (planned t).number ≡ 0 → (judged t ≡ 0) × (¬ Retired t × (smallest_fits t ≡ true))
  plan_says h =
      let said = said_later 0 (omega arith) (omega arith) (omega arith) h in
      let past = (past_sixteen t _ 0 (omega arith)).0 said.1 in
      let d = decides_rules (terms_of t) (at (smallest_alloc t).s) in
      (said.0, (past.0, d.1 ((given_later _ _ 6 0 0 d (omega arith)).0 past.1).0))

  -- where no vector meets the rules, the smallest S do not
  none_fits : ((s : List ℕ) → ¬ MeetsRules t (at s)) → smallest_fits t ≡ false
  none_fits none =
      ⊎_elim (λ f. absurd (none (smallest_alloc t).s ((decides_rules (terms_of t) (at (smallest_alloc t).s)).0 f))) (λ f. f)
      (true_or_false (smallest_fits t))

  six : ((planned t).number ≡ 6) ↔ ((judged t ≡ 0) × (¬ Retired t × ((s : List ℕ) → ¬ MeetsRules t (at s))))
  six = (
    λ h.
        let said = six_says h in
        let all = (allowed t).0 said.0 in
        (said.0, (said.1.0, λ s m. true≢false (sym (smallest_needed t (use_timely t said.1.0) all.0.1 all.1.0.header.grid.0 (at s) m) ∙ said.1.1))),
    λ h. ap (λ (a : Planned). a.number) (plan_none t h.0 (use_timely t h.1.0) (none_fits h.1.1)),
  )

  refused_set : judged t ≢ 0 → (planned t).number ≡ judged t
  refused_set h = ap (λ (a : Planned). a.number) (plan_refused_set t h)

  editions_stay : ¬ Retired t → planned t ≡ answered (judged_then t (or_else (smallest_fits t) 6 0)) (smallest_alloc t)
  editions_stay m = rw (held (in_use t) 16 (or_else (smallest_fits t) 6 0) ((decides_in_use t).1 m)) refl

  kept_found : judged t ≡ 0 → ¬ Retired t → smallest_fits t ≡ true → KeptBy t (record { alloc = smallest_alloc t; number = 0 })
  kept_found h m f =
      let all = (allowed t).0 h in
      let few = all.0.1 in
      record {
        in_use_lem = m;
        plan = is_plan_lem t (use_timely t m) few f;
        smallest = smallest_stands t few all.1.0.header.grid.0;
        judged = plan_judged t h f;
      }

  kept : (planned t).number ≡ 0 → KeptBy t (planned t)
  kept h =
      let said = plan_says h in
      rw (plan_found t said.0 (use_timely t said.1.0) said.1.1) (kept_found said.0 said.1.0 said.1.1)

  -- ---- exactly one answer

  -- a plan in 01's words is the smallest allocation: each is at most the other
  one_plan : is_fddi t ≡ false → t.n ≤ 128 → smallest_fits t ≡ true → (a : Planned) → IsPlan t a → a ≡ record { alloc = smallest_alloc t; number = 0 }
  one_plan h few token a p =
      let same = least_one (terms_of t) a.alloc.s (smallest_alloc t).s p.plan (is_plan_lem t h few token).plan in
      λ i. record { alloc = record { s = same i }; number = p.accepted i }

  -- the set's own number
  refused_with_lem : (k : ℕ) → judged t ≡ k → k ≢ 0 → planned t ≡ record { alloc = blank_alloc; number = k }
  refused_with_lem k j n = plan_refused_set t (λ e. n (sym j ∙ e)) ∙ ap (λ (number : ℕ). record { alloc = blank_alloc; number = number }) j

  fitting : Fitting t (planned t)
  fitting =
      record {
        two = λ c. refused_with_lem 2 ((judged_two t).1 c) (omega arith);
        four = λ c n. refused_with_lem 4 ((judged_four t).1 (c, n)) (omega arith);
        five = λ c n w. refused_with_lem 5 ((judged_five t).1 (c, (n, w))) (omega arith);
        sixteen = λ c n w m. plan_retired t ((allowed t).1 (c, (n, w))) ((decides_fddi t).1 m);
        six = λ c n w m none. plan_none t ((allowed t).1 (c, (n, w))) (use_timely t m) (none_fits (λ s meets. none (s, meets)));
        plan = λ c n w m some.
            let token = smallest_needed t (use_timely t m) c.1 n.header.grid.0 (at some.0) some.1 in
            rw (plan_found t ((allowed t).1 (c, (n, w))) (use_timely t m) token) (is_plan_lem t (use_timely t m) c.1 token);
      }

  -- a set that is judged 0 and whose mode is still planned
  one_planned : (a : Planned) → Fitting t a → CountAllowed t → NumbersAllowed t → WalkTimeAllowed t → ¬ Retired t → a ≡ planned t
  one_planned a f c n w m =
      let j = (allowed t).1 (c, (n, w)) in
      let h = use_timely t m in
      ⊎_elim (λ token.
      one_plan h c.1 token a (f.plan c n w m ((smallest_alloc t).s, (decides_rules (terms_of t) (at (smallest_alloc t).s)).0 token)) ∙ sym (plan_found t j h token))
      (λ token.
      f.six c n w m (λ some. true≢false (sym (smallest_needed t h c.1 n.header.grid.0 (at some.0) some.1) ∙ token)) ∙ sym (plan_none t j h token))
      (true_or_false (smallest_fits t))

  only_one : (a : Planned) → Fitting t a → a ≡ planned t
  only_one a f =
      ⊎_elim (λ c.
      ⊎_elim (λ n.
      ⊎_elim (λ w.
      let count = (decides_count t).0 c in
      let numbers = (decides_numbers t).0 n in
      let walk = (decides_walk t).0 w in
      ⊎_elim (λ m. let old = (decides_fddi t).0 m in f.sixteen count numbers walk old ∙ sym (fitting.sixteen count numbers walk old))
      (λ m. one_planned a f count numbers walk ((decides_not _ _ (decides_fddi t)).0 m))
      (true_or_false (is_fddi t)))
      (λ w.
      let count = (decides_count t).0 c in
      let numbers = (decides_numbers t).0 n in
      let walk = (decides_not _ _ (decides_walk t)).0 w in
      f.five count numbers walk ∙ sym (fitting.five count numbers walk))
      (true_or_false (walk_time_allowed t)))
      (λ n.
      let count = (decides_count t).0 c in
      let numbers = (decides_not _ _ (decides_numbers t)).0 n in
      f.four count numbers ∙ sym (fitting.four count numbers))
      (true_or_false (numbers_allowed t)))
      (λ c. let count = (decides_not _ _ (decides_count t)).0 c in f.two count ∙ sym (fitting.two count))
      (true_or_false (count_allowed t))

blank : (t : Set) → (planned t).number ≢ 0 → (planned t).alloc ≡ blank_alloc
blank t h =
    let k : plan_number t ≢ 0 = λ e. h (answered_number (plan_number t) (smallest_alloc t) ∙ e) in
    ap (λ (a : Planned). a.alloc) (answered_refused (plan_number t) (smallest_alloc t) k)

pub promised : Promised
promised =
    record {
      time_timely = time_timely;
      time_fddi = time_fddi;
      spare_timely = λ t s m. omega (arith, laws.spare_timely t s (ne_eqb _ _ m));
      spare_fddi = λ t s m. omega (arith, laws.spare_fddi t s (rw m refl));
      no_frames = λ t f. rw f (omega arith);
      rules_fddi = λ t s few m. (to_load t (rw m refl) few s, from_load t (rw m refl) few s);
      smallest = smallest_is;
      no_second = smallest_one;
      rounded = rounded;
      every_number = every_number;
      no_grid = no_grid;
      grid_zero = grid_zero;
      at_zero = at_zero;
      sixteen = sixteen;
      six = six;
      refused_set = refused_set;
      editions_stay = editions_stay;
      leaves_fddi = leaves_fddi;
      blank = blank;
      kept = kept;
      one_answer = λ t a. (only_one t a, λ e. rw e (fitting t));
      first_places_lem = planned_same;
      first_places_judged = judged_plan_same;
      given_two = given_two;
      given_four = given_four;
      given_five = given_five;
      given_seven = given_seven;
      given_none = given_none;
    }
