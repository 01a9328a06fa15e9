-- Which asynchronous amounts some request sends.
use Prim.Native.Nat.{ℕ, ◌+◌, ◌-◌}
use mathlib.Core.Path.{◌≡◌, refl, subst}
use mathlib.Core.Bool.{Bool, true, false, ◌||◌}
use mathlib.Core.List.{List}
use mathlib.Core.Logic.{◌⊎◌, inl, inr, ⊎_elim, ◌↔◌}
use native.Mathlib.Nat.{mod-eq-zero_of_dvd, dvd_of_mod-eq-zero}
use native.Mathlib.Omega.{arith}
use borrow.Author.Tests.{eqb-true, eq-eqb, ltb-true, lt-ltb}
use lib.Dec.{eqb}
use Rattle.units.proofs.JudgingLaws.{true_or_false, and-true, true_and}
use Rattle.units.specs.Judging.{Decides}
use Rattle.sets.specs.declared.Set.{Set}
use Rattle.plans.specs.Planned.{judged_plan}
use Rattle.plans.specs.declared.Alloc.{Alloc}
use Rattle.log_records.specs.declared.Entry.{Entry}
use Rattle.rings.specs.Timers.{limit}
use Rattle.rings.specs.Opening.{opened_ring}
use Rattle.inspection.specs.Frames.{any_below, given_by, frames_fit}
use Rattle.inspection.proofs.FrameLaws.{any_of, any_at}
use Rattle.inspection_rules.specs.Gives.{Asked, ring_after, Gives}
use Rattle.inspection_rules.specs.Promised.{WholeFrames}
use Rattle.inspection_rules.proofs.Judging.{asked_decides}
use Rattle.inspection_rules.proofs.Finding.{set_is, reaches}

pub frames_whole : (limit longest amount : ℕ) → Decides (frames_fit limit longest amount) ((amount ≡ 0) ⊎ WholeFrames limit longest amount)
unfolding frames_fit
frames_whole limit longest amount = (
  λ h.
      ⊎_elim (λ (z : eqb amount 0 ≡ true). inl (eqb-true _ _ z))
      (λ (z : eqb amount 0 ≡ false).
      let w = any_at longest (λ k. given_by limit amount (k + 1)) (rw z at h) in
      let both = and-true _ _ w.1.1 in
      inr
      (record {
        length = w.0 + 1;
        low = omega arith;
        high = omega (arith, w.1.0);
        whole = dvd_of_mod-eq-zero (w.0 + 1) (eqb-true _ _ both.0);
        begun = ltb-true _ _ both.1;
      }))
      (true_or_false (eqb amount 0)),
  λ f. ⊎_elim (λ (z : amount ≡ 0). rw (eq-eqb amount 0 z)) (λ (w : WholeFrames limit longest amount). fits w) f,
)
  where
    or_second : (a b : Bool) → b ≡ true → (a || b) ≡ true
    or_second true b h = refl
    or_second false b h = h

    fits : WholeFrames limit longest amount → (eqb amount 0 || any_below longest (λ k. given_by limit amount (k + 1))) ≡ true
    fits w =
        let e : w.length - 1 + 1 ≡ w.length = omega (arith, w.low) in
        let given = true_and _ _ (eq-eqb _ _ (mod-eq-zero_of_dvd w.length w.whole)) (lt-ltb _ _ w.begun) in
        or_second (eqb amount 0) _ (any_of longest (λ k. given_by limit amount (k + 1)) (w.length - 1) (omega (arith, w.low, w.high)) (rw e given))

pub which_amounts : (t : Set) (a : Alloc) (before : List Entry) → judged_plan t a ≡ 0 → Gives t a before → (amount : ℕ)
    → Asked (ring_after (opened_ring t a) before) amount ↔ ((amount ≡ 0) ⊎ WholeFrames (limit (ring_after (opened_ring t a) before)) t.head.frame amount)
which_amounts t a before h g amount =
    let r = ring_after (opened_ring t a) before in
    let asked : Decides (frames_fit (limit r) t.head.frame amount) (Asked r amount) =
    subst (λ (x : Set). Decides (frames_fit (limit r) x.head.frame amount) (Asked r amount)) (set_is t a h before) (asked_decides r (reaches t a h g.0 before g.1) amount) in
    let whole = frames_whole (limit r) t.head.frame amount in
    (λ A. whole.0 (asked.1 A), λ f. asked.0 (whole.1 f))
