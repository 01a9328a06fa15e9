-- What `specs/Promised.antt` promises.
use Prim.Native.Nat.{ℕ, ◌≤◌}
use mathlib.Core.Path.{◌≡◌, sym, ◌∙◌}
use mathlib.Core.Bool.{true, false}
use mathlib.Core.Logic.{◌≢◌, ◌⊎◌, inl, inr, ⊎_elim}
use native.Mathlib.Omega.{arith}
use Rattle.units.specs.Numbers.{most_ttrt}
use Rattle.units.specs.Vectors.{token_kept}
use Rattle.units.proofs.JudgingLaws.{true_or_false, decides_not, held, failed}
use Rattle.sets.specs.Rules.{count_allowed, numbers_allowed, walk_time_allowed}
use Rattle.sets.proofs.SetLaws.{decides_count, decides_numbers, decides_walk, judged_0, judged_2, judged_4, judged_5}
use Rattle.sets.specs.declared.Set.{Set}
use Rattle.plans.specs.Rules.{lost, Retired}
use Rattle.plans.specs.Planned.{smallest_at}
use Rattle.plans.proofs.Promised as plans
use Rattle.reasons.proofs.PlanningLaws.{number_is}
use Rattle.tuning.specs.Tunings.{with_ttrt, judged_at_all, planned_at}
use Rattle.tuning.specs.Promised.{Promised}
use Rattle.tuning.proofs.Cases.{cases_hold}
use Rattle.tuning.proofs.ShownLaws.{ranged, shown, none_counted, joined}
use Rattle.tuning.proofs.TriedLaws.{judged_tunable, plan_tunable, at_numbers, at_plannable, at_most, at_range, judged_count, judged_number, judged_mode, not_tunable}

-- at each TTRT τ decides between 5 and what the token rule says
at_each : (t : Set) (x : ℕ) → judged_at_all t ≡ 0 → 1 ≤ x → x ≤ most_ttrt → ((planned_at t x).number ≡ 0) ⊎ ((planned_at t x).number ≡ 5) ⊎ ((planned_at t x).number ≡ 6)
at_each t x e low high =
    let u = with_ttrt t x in
    let h = (judged_tunable t).0 e in
    ⊎_elim (λ walk.
    let own = at_plannable t x h (low, high) ((decides_walk u).0 walk) in
    let kept = token_kept x (lost u) u.n (smallest_at u) in
    ⊎_elim (λ (k : kept ≡ true). inl (number_is u own ∙ held kept 6 0 k)) (λ (k : kept ≡ false). inr (inr (number_is u own ∙ failed kept 6 0 k))) (true_or_false kept))
    (λ walk.
    let numbers = (decides_numbers u).1 (at_numbers t x h (low, high)) in
    let five = judged_5 u ((decides_count u).1 h.count) numbers walk in
    inr (inl ((plans.promised).refused_set u (λ z. omega (arith, five)) ∙ five)))
    (true_or_false (walk_time_allowed u))

-- refused at each TTRT as whatever TTRT is
as_planning : (t : Set) (x : ℕ) → judged_at_all t ≢ 0 → 1 ≤ x → x ≤ most_ttrt → ((planned_at t x).number ≡ judged_at_all t) ⊎ ((judged_at_all t ≡ 16) × ((planned_at t x).number ≡ 5))
as_planning t x n low high =
    let u = with_ttrt t x in
    ⊎_elim (λ count.
    ⊎_elim (λ numbers.
    let sixteen = judged_mode t count numbers in
    let mode : Retired t = not_tunable t count numbers n in
    let own = (decides_numbers u).1 (at_range t x (low, high) numbers) in
    ⊎_elim (λ walk. inl (((plans.promised).sixteen u).1 (judged_0 u count own walk, mode) ∙ sym (sixteen mode)))
    (λ walk. let five = judged_5 u count own walk in inr (sixteen mode, (plans.promised).refused_set u (λ z. omega (arith, five)) ∙ five))
    (true_or_false (walk_time_allowed u)))
    (λ numbers.
    let own : numbers_allowed u ≡ false = (decides_not _ _ (decides_numbers u)).1 (λ all. (decides_not _ _ (decides_numbers (with_ttrt t most_ttrt))).0 numbers (at_most t x all)) in
    let four = judged_4 u count own in
    inl ((plans.promised).refused_set u (λ z. omega (arith, four)) ∙ four ∙ sym (judged_number t count numbers)))
    (true_or_false (numbers_allowed (with_ttrt t most_ttrt))))
    (λ count.
    let two = judged_2 u count in
    inl ((plans.promised).refused_set u (λ z. omega (arith, two)) ∙ two ∙ sym (judged_count t count)))
    (true_or_false (count_allowed t))

pub promised : Promised
promised =
    record {
      shown = shown;
      none = none_counted;
      refused = λ t x k e. k ((judged_tunable t).1 (plan_tunable t x e));
      as_planning = as_planning;
      at_each = at_each;
      ends = λ t from n x h. ranged t x h.plan;
      joined = joined;
      cases = cases_hold;
    }
