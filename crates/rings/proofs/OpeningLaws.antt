-- Opening's number beside the judgement of the plan: 2, 4 and 5 are the judgement's, and behind them FDDI is 16.
use Prim.Native.Nat.{ℕ}
use mathlib.Core.Path.{◌≡◌, refl, ap, ◌∙◌}
use mathlib.Core.Bool.{Bool, true, false, not, ◌&&◌, true≢false, false≢true}
use mathlib.Core.Logic.{◌↔◌}
use native.Mathlib.Omega.{arith}
use lib.Dec.{eqb}
use Rattle.units.specs.Judging.{or_else}
use Rattle.units.specs.Places.{at}
use Rattle.units.proofs.JudgingLaws.{held, failed, passed}
use Rattle.sets.specs.Rules.{count_allowed, numbers_allowed, walk_time_allowed}
use Rattle.sets.specs.declared.Set.{Set}
use Rattle.plans.specs.Rules.{in_use, alloc_in_range}
use Rattle.plans.specs.Planned.{given_then, rules_number, judged_plan}
use Rattle.plans.proofs.PlanLaws.{decides_in_use}
use Rattle.plans.specs.declared.Alloc.{Alloc}
use Rattle.rings.specs.Opening.{opening_number}
use Rattle.rings.specs.Timers.{Fddi}
use Rattle.rings.proofs.TimerLaws.{fddi_true}

-- the judgement stopped before the rules, at 2, 4 or 5: its number is neither 0 nor 7
abbrev pub before : ℕ → Bool
before k = not (eqb k 0) && not (eqb k 7)

-- of the tests of 2, 4, 5 and 7: where one of the first three fails, what comes behind them does not count, and where none does, only that counts
beside : (b₂ b₄ b₅ b₇ : Bool) (k : ℕ) → let judged = or_else b₂ 2 (or_else b₄ 4 (or_else b₅ 5 (or_else b₇ 7 0))) in
    let other = or_else b₂ 2 (or_else b₄ 4 (or_else b₅ 5 k)) in (before judged ≡ true → other ≡ judged) × (before judged ≡ false → other ≡ k)
unfolding or_else
beside false b₄ b₅ b₇ k = (λ _. refl, λ h. absurd (true≢false h))
beside true false b₅ b₇ k = (λ _. refl, λ h. absurd (true≢false h))
beside true true false b₇ k = (λ _. refl, λ h. absurd (true≢false h))
beside true true true false k = (λ h. absurd (false≢true h), λ _. refl)
beside true true true true k = (λ h. absurd (false≢true h), λ _. refl)

module _ (t : Set) (a : Alloc) where
  -- 2, 4 and 5 are the judgement's in every mode
  pub opening_before : before (judged_plan t a) ≡ true → opening_number t a ≡ judged_plan t a
  unfolding opening_number judged_plan
  opening_before h = (beside _ _ _ _ _).0 h

  -- behind them FDDI is 16
  pub opening_retired : before (judged_plan t a) ≡ false → Fddi t → opening_number t a ≡ 16
  unfolding opening_number judged_plan
  opening_retired h e = (beside _ _ _ _ _).1 h ∙ failed (in_use t) 16 (rules_number t a) (ap not (fddi_true t e))

  -- in a mode that is in use, opening's number is the judgement's
  pub opening_in_use : ¬ Fddi t → opening_number t a ≡ judged_plan t a
  unfolding opening_number judged_plan
  opening_in_use n = ap (given_then t a) (held (in_use t) 16 (rules_number t a) ((decides_in_use t).1 n))

  -- opening accepts exactly what the judgement accepts, in a mode that is in use
  pub opening_none : (opening_number t a ≡ 0) ↔ ((judged_plan t a ≡ 0) × ¬ Fddi t)
  unfolding opening_number judged_plan
  opening_none = (
    λ h.
        let p₂ = passed (count_allowed t) 2 _ (omega arith) h in
        let p₄ = passed (numbers_allowed t && alloc_in_range t (at a.s)) 4 _ (omega arith) p₂.1 in
        let p₅ = passed (walk_time_allowed t) 5 _ (omega arith) p₄.1 in
        let p₁₆ = passed (in_use t) 16 (rules_number t a) (omega arith) p₅.1 in (
          held _ _ _ p₂.0 ∙ (held _ _ _ p₄.0 ∙ (held _ _ _ p₅.0 ∙ p₁₆.1)),
          (decides_in_use t).0 p₁₆.0,
        ),
    λ h. opening_in_use h.1 ∙ h.0,
  )
