-- Places from N on are never looked at: the judgement of a plan and planning ask for the first N places alone, in every mode.
use Prim.Native.Nat.{ℕ, ◌+◌, ◌-◌, ◌<◌}
use mathlib.Core.Path.{◌≡◌, sym, ap, ◌∙◌}
use mathlib.Core.List.{List}
use mathlib.Core.Logic.{⊎_elim}
use native.Mathlib.Omega.{arith}
use lib.Dec.{eqb}
use Rattle.units.specs.Numbers.{fddi}
use Rattle.units.specs.Places.{at, all_below, fill}
use Rattle.units.proofs.PlaceLaws.{all_same, fill_same, sum_same}
use Rattle.units.specs.Judging.{or_else}
use Rattle.units.proofs.JudgingLaws.{true_or_false}
use Rattle.units.specs.Vectors.{SameTerms}
use Rattle.units.proofs.VectorLaws.{test_same}
use Rattle.sets.specs.Rules.{SameSet}
use Rattle.sets.specs.Judged.{zeros}
use Rattle.sets.proofs.SetLaws.{judged_same, tau_same, stations_same}
use Rattle.sets.specs.declared.Head.{Head}
use Rattle.sets.specs.declared.Set.{Set}
use Rattle.fddi.specs.Rules as fddi-rules
use Rattle.plans.specs.Rules.{is_fddi, in_use, load_of, lost, time_at, terms_of, in_range_s, rules_fit, alloc_in_range}
use Rattle.plans.specs.Planned.{smallest_at, smallest_alloc, smallest_fits, judged_plan, planned}
use Rattle.plans.proofs.PlanLaws.{time_timely, time_fddi}
use Rattle.plans.specs.declared.Alloc.{Alloc}

module _ (a b : Set) (same : SameSet a b) where
  mode_same : is_fddi a ≡ is_fddi b
  mode_same = ap (λ (h : Head). eqb h.mode fddi) same.header

  ttrt_same : a.head.ttrt ≡ b.head.ttrt
  ttrt_same = ap (λ (h : Head). h.ttrt) same.header

  grid_same : a.head.grid ≡ b.head.grid
  grid_same = ap (λ (h : Head). h.grid) same.header

  lost_same : lost a ≡ lost b
  lost_same = rw (tau_same a b same, same.header)

  module _ (s v : ℕ → ℕ) (each : (i : ℕ) → i < a.n → s i ≡ v i) where
    others_same : (i : ℕ) → i < a.n → fddi-rules.others (fddi-rules.stations (load_of a)) s i ≡ fddi-rules.others (fddi-rules.stations (load_of b)) v i
    others_same i l =
        let n = fddi-rules.stations (load_of a) in
        let before = sum_same i s v (λ j k. each j (omega arith)) in
        let behind = sum_same (n - (i + 1)) (λ k. s (i + 1 + k)) (λ k. v (i + 1 + k)) (λ k m. each (i + 1 + k) (omega arith)) in
        rw (before, behind, same.count)

    time_same : (i : ℕ) → i < a.n → time_at a s i ≡ time_at b v i
    time_same i l =
        ⊎_elim (λ h.
        time_fddi a s i h ∙
        rw (others_same i l, ttrt_same, lost_same, same.deadline i l, each i l) (sym (time_fddi b v i (sym mode_same ∙ h))))
        (λ h.
        time_timely a s i h ∙ rw (ttrt_same, same.deadline i l, each i l) (sym (time_timely b v i (sym mode_same ∙ h))))
        (true_or_false (is_fddi a))

  terms_same : SameTerms (terms_of a) (terms_of b)
  terms_same =
      record {
        count = same.count;
        ttrt = ttrt_same;
        lost = lost_same;
        grid = grid_same;
        longest = same.longest;
        time = time_same;
      }

  rules_same : (s v : ℕ → ℕ) → ((i : ℕ) → i < a.n → s i ≡ v i) → rules_fit a s ≡ rules_fit b v
  rules_same = test_same (terms_of a) (terms_of b) terms_same

  smallest_same : smallest_alloc a ≡ smallest_alloc b
  smallest_same =
      ap (λ (s : List ℕ). record { s = s })
      (fill_same a.n (smallest_at a) (smallest_at b) zeros (λ i l. rw (grid_same, ttrt_same, same.longest i l, same.deadline i l)) ∙
      ap (λ (n : ℕ). fill n (smallest_at b) zeros) same.count)

  fits_same : smallest_fits a ≡ smallest_fits b
  fits_same = rules_same (at (smallest_alloc a).s) (at (smallest_alloc b).s) (λ i l. ap (λ (x : Alloc). at x.s i) smallest_same)

pub planned_same : (a b : Set) → SameSet a b → planned a ≡ planned b
planned_same a b same =
    rw (mode_same a b same, fits_same a b same, smallest_same a b same, judged_same a b (or_else (in_use b) 16 (or_else (smallest_fits b) 6 0)) same)

pub judged_plan_same : (t u : Set) (a b : Alloc) → SameSet t u → ((i : ℕ) → i < t.n → at a.s i ≡ at b.s i) → judged_plan t a ≡ judged_plan u b
unfolding judged_plan
judged_plan_same t u a b same each =
    let range : alloc_in_range t (at a.s) ≡ alloc_in_range u (at b.s) =
    all_same t.n (in_range_s (at a.s)) (in_range_s (at b.s)) (λ i l. rw (each i l)) ∙
    ap (λ (n : ℕ). all_below n (in_range_s (at b.s))) same.count in
    rw (range, rules_same t u same (at a.s) (at b.s) each, stations_same t u same, tau_same t u same, same.count, same.header)
