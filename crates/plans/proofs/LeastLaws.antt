-- The smallest S at each station are the least vector of a timely-token set: at each station at most every vector that meets the rules, and they meet them wherever any vector does. So 6 is right where they break one, and they are the plan where they do not. An FDDI set's rules are those of its load.
use Prim.Native.Nat.{ℕ, ◌≤◌, ◌<◌}
use mathlib.Core.Path.{◌≡◌, refl, sym, ap, ◌∙◌}
use mathlib.Core.Bool.{true, false}
use mathlib.Core.Logic.{◌≢◌}
use native.Mathlib.Omega.{arith}
use lib.ListN.{length}
use Rattle.units.specs.Places.{at, all_below}
use Rattle.units.proofs.PlaceLaws.{zero_at, sum_mono, all_same, fill_length, fill_inside, fill_outside}
use Rattle.units.specs.Judging.{or_else}
use Rattle.units.proofs.JudgingLaws.{true_and, same_test, held, failed}
use Rattle.units.specs.Vectors.{whole_rotations, SameTerms, deadline_kept_at, deadlines_kept, rules_kept}
use Rattle.units.proofs.VectorLaws.{decides_token, decides_rules, within_ttrt, terms_back, rules_same, test_same}
use Rattle.sets.specs.Judged.{judged, zeros}
use Rattle.sets.proofs.SetLaws.{decides_count, decides_numbers, decides_walk, allowed, judged_rest, judged_keeps}
use Rattle.sets.specs.declared.Set.{Set}
use Rattle.fddi.specs.Rules as fddi-rules
use Rattle.fddi.proofs.Promised as fddi-proofs
use Rattle.plans.specs.Rules.{lost, alpha, is_fddi, in_use, load_of, terms_of, MeetsToken, MeetsRules, IsSmallest, AllocInRange, token_fits, rules_fit, timely_fits_at}
use Rattle.plans.specs.Planned.{smallest_at, smallest_alloc, smallest_fits, judged_plan, blank_alloc, plan_number, answered, planned}
use Rattle.plans.specs.Answer.{IsPlan}
use Rattle.plans.proofs.PlanLaws.{smallest_is, smallest_least, time_timely, time_fddi, decides_alloc, given_0, answered_refused, answered_plan}

-- ---- timely-token: the smallest S at each station by itself

-- a place of the smallest allocation
smallest_inside : (t : Set) → t.n ≤ 128 → (i : ℕ) → i < t.n → at (smallest_alloc t).s i ≡ smallest_at t i
smallest_inside t few i l = fill_inside t.n (smallest_at t) zeros i l few

-- a vector that meets the rules is at least as large at every station
smallest_below : (t : Set) → is_fddi t ≡ false → t.n ≤ 128 → (v : ℕ → ℕ) → MeetsRules t v → (i : ℕ) → i < t.n → at (smallest_alloc t).s i ≤ v i
smallest_below t h few v m i l =
    let whole = whole_rotations t.head.ttrt (at t.d i) in
    let missing = alpha t.head.ttrt (at t.d i) in
    let enough = rw (time_timely t v i h) at (m.deadlines i l) in
    rw (smallest_inside t few i l) (smallest_least t.head.grid whole missing (at t.c i) (v i) (m.grid i l) enough)

-- at each station of the smallest allocation stands the smallest multiple
pub smallest_stands : (t : Set) → t.n ≤ 128 → 0 < t.head.grid → (i : ℕ) → i < t.n → IsSmallest t.head.grid t.head.ttrt (at t.c i) (at t.d i) (at (smallest_alloc t).s i)
smallest_stands t few some i l =
    rw (smallest_inside t few i l) (smallest_is t.head.grid t.head.ttrt (at t.c i) (at t.d i) some)

-- the smallest allocation keeps the deadline rule and the grid, so the token rule decides
pub smallest_token : (t : Set) → is_fddi t ≡ false → t.n ≤ 128 → 0 < t.head.grid → MeetsToken t (at (smallest_alloc t).s) → MeetsRules t (at (smallest_alloc t).s)
smallest_token t h few some fits =
    record {
      deadlines = λ i l. rw (time_timely t (at (smallest_alloc t).s) i h) (smallest_stands t few some i l).meets;
      token = fits;
      grid = λ i l. (smallest_stands t few some i l).multiple;
    }

-- where a vector meets the rules, it does
smallest_rules : (t : Set) → is_fddi t ≡ false → t.n ≤ 128 → 0 < t.head.grid → (v : ℕ → ℕ) → MeetsRules t v → MeetsRules t (at (smallest_alloc t).s)
smallest_rules t h few some v m =
    smallest_token t h few some (omega (arith, sum_mono t.n (at (smallest_alloc t).s) v (smallest_below t h few v m), m.token))

-- ---- FDDI: the rules of the load are the set's

module _ (t : Set) (h : is_fddi t ≡ true) (few : t.n ≤ 128) where
  -- what a vector is held to is the same
  load_terms : SameTerms (fddi-rules.terms_of (load_of t)) (terms_of t)
  load_terms =
      let own : fddi-rules.SameLoad (load_of t) (load_of t) =
      record { count = refl; ttrt = refl; lost = refl; grid = refl; longest = λ i l. refl; deadline = λ i l. refl } in
      record {
        count = omega arith;
        ttrt = refl;
        lost = refl;
        grid = refl;
        longest = λ i l. refl;
        time = λ s v each i l. ((fddi-proofs.promised).first_places_terms (load_of t) (load_of t) own).time s v each i l ∙ sym (time_fddi t v i h);
      }

  pub from_load : (s : ℕ → ℕ) → fddi-rules.MeetsFddi (load_of t) s → MeetsRules t s
  from_load s = rules_same _ _ load_terms s s (λ i l. refl)

  pub to_load : (s : ℕ → ℕ) → MeetsRules t s → fddi-rules.MeetsFddi (load_of t) s
  to_load s = rules_same _ _ (terms_back _ _ load_terms) s s (λ i l. refl)

  pub load_rules : (s : ℕ → ℕ) → rules_kept (fddi-rules.terms_of (load_of t)) s ≡ rules_fit t s
  load_rules s = test_same _ _ load_terms s s (λ i l. refl)

-- ---- the smallest allocation as a list

pub smallest_long : (t : Set) → length (smallest_alloc t).s ≡ 128
smallest_long t = fill_length t.n (smallest_at t) zeros

pub smallest_past : (t : Set) (i : ℕ) → t.n ≤ i → at (smallest_alloc t).s i ≡ 0
smallest_past t i l = fill_outside t.n (smallest_at t) zeros i l ∙ zero_at i

-- where a vector meets the rules, the test says that it does
pub smallest_needed : (t : Set) → is_fddi t ≡ false → t.n ≤ 128 → 0 < t.head.grid → (v : ℕ → ℕ) → MeetsRules t v → smallest_fits t ≡ true
smallest_needed t h few some v m = (decides_rules (terms_of t) (at (smallest_alloc t).s)).1 (smallest_rules t h few some v m)

-- ---- what the code asks is what the rules say

pub timely_deadlines : (t : Set) (s : ℕ → ℕ) → is_fddi t ≡ false → all_below t.n (timely_fits_at t s) ≡ deadlines_kept (terms_of t) s
timely_deadlines t s h = all_same t.n (timely_fits_at t s) (deadline_kept_at (terms_of t) s) (λ i l. rw (time_timely t s i h))

-- the token rule decides whether the smallest allocation meets the rules
pub smallest_fits_lem : (t : Set) → is_fddi t ≡ false → t.n ≤ 128 → 0 < t.head.grid → token_fits t (at (smallest_alloc t).s) ≡ smallest_fits t
smallest_fits_lem t h few some =
    same_test _ _ _ _ (decides_token t.head.ttrt (lost t) t.n (at (smallest_alloc t).s)) (decides_rules (terms_of t) (at (smallest_alloc t).s)) (smallest_token t h few some) (λ m. m.token)

-- ---- planning, test by test

-- what planning says of a set that is judged 0
abbrev chosen : Set → ℕ
chosen t = or_else (in_use t) 16 (or_else (smallest_fits t) 6 0)

number_set : (t : Set) → judged t ≢ 0 → plan_number t ≡ judged t
number_set t h = judged_keeps t (chosen t) h

number_retired : (t : Set) → judged t ≡ 0 → is_fddi t ≡ true → plan_number t ≡ 16
number_retired t h m = judged_rest t (chosen t) h ∙ failed (in_use t) 16 _ (rw m refl)

number_in_use : (t : Set) → judged t ≡ 0 → is_fddi t ≡ false → plan_number t ≡ or_else (smallest_fits t) 6 0
number_in_use t h m = judged_rest t (chosen t) h ∙ held (in_use t) 16 _ (rw m refl)

-- a refused answer is blank
plan_refused_lem : (t : Set) (k : ℕ) → plan_number t ≡ k → k ≢ 0 → planned t ≡ record { alloc = blank_alloc; number = k }
plan_refused_lem t k e n = ap (λ (number : ℕ). answered number (smallest_alloc t)) e ∙ answered_refused k (smallest_alloc t) n

pub plan_refused_set : (t : Set) → judged t ≢ 0 → planned t ≡ record { alloc = blank_alloc; number = judged t }
plan_refused_set t h = plan_refused_lem t (judged t) (number_set t h) h

pub plan_retired : (t : Set) → judged t ≡ 0 → is_fddi t ≡ true → planned t ≡ record { alloc = blank_alloc; number = 16 }
plan_retired t h m = plan_refused_lem t 16 (number_retired t h m) (omega arith)

pub plan_none : (t : Set) → judged t ≡ 0 → is_fddi t ≡ false → smallest_fits t ≡ false → planned t ≡ record { alloc = blank_alloc; number = 6 }
plan_none t h m f = plan_refused_lem t 6 (number_in_use t h m ∙ failed (smallest_fits t) 6 0 f) (omega arith)

pub plan_found : (t : Set) → judged t ≡ 0 → is_fddi t ≡ false → smallest_fits t ≡ true → planned t ≡ record { alloc = smallest_alloc t; number = 0 }
plan_found t h m f = answered_plan (plan_number t) (smallest_alloc t) (number_in_use t h m ∙ held (smallest_fits t) 6 0 f)

-- ---- a plan that planning answered

pub is_plan_lem : (t : Set) → is_fddi t ≡ false → t.n ≤ 128 → smallest_fits t ≡ true → IsPlan t (record { alloc = smallest_alloc t; number = 0 })
is_plan_lem t h few f =
    record {
      accepted = refl;
      plan =
          record {
            places = smallest_long t;
            least = record { meets = (decides_rules (terms_of t) (at (smallest_alloc t).s)).0 f; least = smallest_below t h few };
            past = smallest_past t;
          };
    }

pub plan_judged : (t : Set) → judged t ≡ 0 → smallest_fits t ≡ true → judged_plan t (smallest_alloc t) ≡ 0
plan_judged t h f =
    let all = (allowed t).0 h in
    let meets = (decides_rules (terms_of t) (at (smallest_alloc t).s)).0 f in
    let small : AllocInRange t (at (smallest_alloc t).s) = λ i l. omega (arith, within_ttrt (terms_of t) (at (smallest_alloc t).s) meets.token i l, all.1.0.header.ttrt.1) in
    given_0 t (smallest_alloc t) ((decides_count t).1 all.0)
    (true_and _ _ ((decides_numbers t).1 all.1.0) ((decides_alloc t (at (smallest_alloc t).s)).1 small))
    ((decides_walk t).1 all.1.1)
    f
