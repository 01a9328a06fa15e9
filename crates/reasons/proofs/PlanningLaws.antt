-- Of a set that planning answers 6 or a plan, the token rule of the smallest S decides: it keeps the deadline rule and the grid, and at each station it is at most every vector that does. All that the reasons need of planning.
use Prim.Native.Nat.{ℕ, ◌≤◌, ◌<◌}
use mathlib.Core.Path.{◌≡◌, refl, sym, ap, ◌∙◌}
use mathlib.Core.Bool.{true, false, not}
use mathlib.Core.Logic.{◌↔◌, ⊎_elim}
use native.Mathlib.Omega.{arith}
use borrow.Author.Tests.{eqb-true, eqb-false, eq-eqb, ne_eqb, not-true}
use Rattle.units.specs.Grid.{AllOnGrid}
use Rattle.units.specs.Judging.{or_else, Decides}
use Rattle.units.proofs.JudgingLaws.{decides_both, decides_not, true_or_false, held, failed, given, given_later, iff_then}
use Rattle.units.specs.Places.{at, sum_below}
use Rattle.units.proofs.PlaceLaws.{fill_inside, sum_mono, sum_same}
use Rattle.units.specs.Vectors.{TokenKept, token_kept}
use Rattle.units.proofs.VectorLaws.{decides_token}
use Rattle.sets.specs.Judged.{zeros}
use Rattle.sets.proofs.SetLaws.{allowed}
use Rattle.sets.specs.declared.Set.{Set}
use Rattle.plans.specs.Rules.{lost, is_fddi, IsSmallest, MeetsDeadlines, MeetsRules}
use Rattle.plans.specs.Planned.{smallest_at, smallest_alloc, planned}
use Rattle.plans.specs.Answer.{AllocationExists, Fitting}
use Rattle.plans.proofs.PlanLaws.{smallest_is, time_timely, given_none}
use Rattle.plans.specs.declared.Planned.{Planned}
use Rattle.plans.proofs.Promised as plans
use Rattle.reasons.specs.Shortages.{Plannable, plannable}

-- the test decides whether planning answers 6 or a plan
pub decides_plannable : (t : Set) → Decides (plannable t) (Plannable t)
decides_plannable t =
    decides_both _ _ _ _ (eqb-true _ _, eq-eqb _ _) ((λ e. eqb-false _ _ (not-true _ e)), λ n. ap not (ne_eqb _ _ n))

-- where planning answers 6 or a plan, the set is so
pub six_plannable : (t : Set) → (planned t).number ≡ 6 → Plannable t
six_plannable t e = let f = ((plans.promised).six t).0 e in (f.0, f.1.0)

pub plan_plannable : (t : Set) → (planned t).number ≡ 0 → Plannable t
plan_plannable t e =
    let kept = (plans.promised).kept t e in
    let all = (given_none t (planned t).alloc).0 kept.judged in
    ((allowed t).1 (all.0, (all.1.0.0, all.1.1.0)), kept.in_use_lem)

module _ (t : Set) (h : Plannable t) where
  pub own_mode : is_fddi t ≡ false
  own_mode = ne_eqb _ _ h.1

  pub few : t.n ≤ 128
  few = ((allowed t).0 h.0).0.1

  pub stepped_by : 0 < t.head.grid
  stepped_by = ((allowed t).0 h.0).1.0.header.grid.0

  pub stands : (i : ℕ) → IsSmallest t.head.grid t.head.ttrt (at t.c i) (at t.d i) (smallest_at t i)
  stands i = smallest_is t.head.grid t.head.ttrt (at t.c i) (at t.d i) stepped_by

  -- what keeps the deadline rule on the grid is at least as large at each station
  pub at_least : (s : ℕ → ℕ) → MeetsDeadlines t s → AllOnGrid t.head.grid t.n s → (i : ℕ) → i < t.n → smallest_at t i ≤ s i
  at_least s deadlines grid i l = (stands i).least (s i) (grid i l) (rw (time_timely t s i own_mode) at (deadlines i l))

  -- and so is its sum
  pub sum_least : (s : ℕ → ℕ) → MeetsDeadlines t s → AllOnGrid t.head.grid t.n s → sum_below t.n (smallest_at t) ≤ sum_below t.n s
  sum_least s deadlines grid = sum_mono t.n (smallest_at t) s (at_least s deadlines grid)

  -- the smallest S as a list
  inside : (i : ℕ) → i < t.n → at (smallest_alloc t).s i ≡ smallest_at t i
  inside i l = fill_inside t.n (smallest_at t) zeros i l few

  kept_by_token : TokenKept t.head.ttrt (lost t) t.n (smallest_at t) → MeetsRules t (at (smallest_alloc t).s)
  kept_by_token token =
      record {
        deadlines = λ i l. rw (time_timely t (at (smallest_alloc t).s) i own_mode, inside i l) (stands i).meets;
        token = omega (arith, sum_same t.n (at (smallest_alloc t).s) (smallest_at t) inside);
        grid = λ i l. rw (inside i l) (stands i).multiple;
      }

  -- some vector meets the rules exactly if the smallest S keep the token rule
  pub exists_is : AllocationExists t ↔ TokenKept t.head.ttrt (lost t) t.n (smallest_at t)
  exists_is = (
    λ some. omega (arith, sum_least (at some.0) some.1.deadlines some.1.grid, some.1.token),
    λ token. ((smallest_alloc t).s, kept_by_token token),
  )

  decides_exists : Decides (token_kept t.head.ttrt (lost t) t.n (smallest_at t)) (AllocationExists t)
  decides_exists = iff_then (decides_token t.head.ttrt (lost t) t.n (smallest_at t)) (exists_is.1, exists_is.0)

  answers : Fitting t (planned t)
  answers = ((plans.promised).one_answer t (planned t)).1 refl

  -- planning's number
  pub number_is : (planned t).number ≡ or_else (token_kept t.head.ttrt (lost t) t.n (smallest_at t)) 6 0
  number_is =
      let all = (allowed t).0 h.0 in
      let kept = token_kept t.head.ttrt (lost t) t.n (smallest_at t) in
      ⊎_elim (λ (e : kept ≡ true). (answers.plan all.0 all.1.0 all.1.1 h.1 (decides_exists.0 e)).accepted ∙ sym (held kept 6 0 e))
      (λ (e : kept ≡ false).
      ap (λ (a : Planned). a.number) (answers.six all.0 all.1.0 all.1.1 h.1 ((decides_not _ _ decides_exists).0 e)) ∙ sym (failed kept 6 0 e))
      (true_or_false kept)

  pub six_is : ((planned t).number ≡ 6) ↔ ¬ TokenKept t.head.ttrt (lost t) t.n (smallest_at t)
  six_is = rw number_is (given _ _ 6 0 (decides_token t.head.ttrt (lost t) t.n (smallest_at t)) (omega arith))

  pub plan_is : ((planned t).number ≡ 0) ↔ TokenKept t.head.ttrt (lost t) t.n (smallest_at t)
  plan_is =
      let later = given_later _ _ 6 0 0 (decides_token t.head.ttrt (lost t) t.n (smallest_at t)) (omega arith) in
      rw number_is ((λ e. (later.0 e).0), λ k. later.1 (k, refl))

  -- the plan's S are the smallest
  pub plan_s : (planned t).number ≡ 0 → (i : ℕ) → i < t.n → at (planned t).alloc.s i ≡ smallest_at t i
  plan_s found i l =
      let all = (allowed t).0 h.0 in
      let some = exists_is.1 (plan_is.0 found) in
      let least = (answers.plan all.0 all.1.0 all.1.1 h.1 some).plan.least in
      omega (
        arith,
        inside i l,
        least.least (at (smallest_alloc t).s) (kept_by_token (plan_is.0 found)) i l,
        at_least (at (planned t).alloc.s) least.meets.deadlines least.meets.grid i l,
      )
