-- Places from N on are never looked at: two plans that are the same over the first N places give the same inspection.
use Prim.Native.Nat.{ℕ, zero, suc, ◌+◌, ◌%◌, ◌^◌, ◌≤◌, ◌<◌}
use mathlib.Core.Path.{◌≡◌, refl, ap, ◌∙◌}
use mathlib.Core.Bool.{cond}
use mathlib.Core.List.{List, [], ◌∷◌}
use mathlib.Core.Logic.{◌≢◌, ⊎_elim}
use native.Mathlib.Omega.{arith}
use lib.Dec.{eqb}
use Rattle.units.specs.Places.{at, sum_below, fill}
use Rattle.units.proofs.PlaceLaws.{sum_same, fill_same}
use Rattle.sets.specs.Rules.{SameSet}
use Rattle.sets.specs.Judged.{zeros}
use Rattle.sets.specs.declared.Set.{Set}
use Rattle.plans.specs.declared.Alloc.{Alloc}
use Rattle.log_records.specs.declared.Entry.{Entry}
use Rattle.log_records.specs.declared.Entry.TheVariants.{Visit, Mark}
use Rattle.rings.specs.State.{following}
use Rattle.rings.specs.Timers.{lead}
use Rattle.promises.proofs.Course.{following_is, same_or_not}
use Rattle.inspection.specs.Opening.{passing_times, begun}
use Rattle.inspection.specs.Rules.{place, expected, broken_rule}
use Rattle.inspection.specs.Records.{visited_on, switched_on, moved_on, judged, inspected, inspected_all, inspection_of}
use Rattle.inspection.specs.declared.Inspection.{Inspection}
use Rattle.inspection.specs.declared.Expected.{Expected}
use Rattle.inspection.proofs.RecordLaws.{inspected_stays, inspected_stops, inspected_moves}

module _ (t u : Set) (a b : Alloc) (few : t.n ≤ 128) (some : 1 ≤ t.n) (same : SameSet t u) (shares : (i : ℕ) → i < t.n → at a.s i ≡ at b.s i) where
  walks : (n : ℕ) → n ≤ t.n → sum_below n (at t.w) ≡ sum_below n (at u.w)
  walks n l = sum_same n (at t.w) (at u.w) (λ i k. same.walk i (omega arith))

  begun_same : begun t a ≡ begun u b
  unfolding begun passing_times
  begun_same =
      let times : fill t.n (λ i. sum_below i (at t.w) % 2 ^ 32) zeros ≡ fill t.n (λ i. sum_below i (at u.w) % 2 ^ 32) zeros =
      fill_same t.n _ _ zeros (λ i l. ap (λ (x : ℕ). x % 2 ^ 32) (walks i (omega arith))) in
      let all = sum_same t.n (at a.s) (at b.s) shares in
      rw (times, walks t.n (omega arith), all, same.count) refl

  -- the token's station is one of the first N
  abbrev Inside : Inspection → Type 0
  Inside s = place s < t.n

  module _ (s : Inspection) (inside : Inside s) where
    expected_same : expected s t a ≡ expected s u b
    expected_same = rw (same.header, same.count, shares (place s) inside) refl

    moved_same : (e : Entry) → moved_on s t a e ≡ moved_on s u b e
    unfolding visited_on lead
    moved_same (Visit v) = rw (same.header, same.count, shares (place s) inside, same.walk (place s) inside) refl
    moved_same (Mark m) = refl

    -- and so is the one that it moves on to
    moved_inside : (e : Entry) → Inside (moved_on s t a e)
    unfolding visited_on switched_on
    moved_inside (Visit v) =
        ⊎_elim (λ (w : (place s + 1 < t.n) × (following t.n (place s) ≡ place s + 1)). omega (arith, w.0, w.1))
        (λ (w : (place s + 1 ≡ t.n) × (following t.n (place s) ≡ 0)). omega (arith, w.1))
        (following_is t.n (place s) inside)
    moved_inside (Mark m) = inside

  module _ (s : Inspection) (inside : Inside s) (e : Entry) where
    judged_same : (k : ℕ) → judged k s t a e ≡ judged k s u b e
    unfolding judged
    judged_same zero = moved_same s inside e
    judged_same (suc k) = refl

    inspected_same : inspected s t a e ≡ inspected s u b e
    unfolding inspected
    inspected_same =
        ap (λ (x : Expected). cond (eqb s.rule 0) (judged (broken_rule x e) s t a e) s) (expected_same s inside) ∙
        ap (λ (x : Inspection). cond (eqb s.rule 0) x s) (judged_same (broken_rule (expected s u b) e))

    inspected_inside : Inside (inspected s t a e)
    inspected_inside =
        let k = broken_rule (expected s t a) e in
        ⊎_elim (λ (z : s.rule ≡ 0).
        ⊎_elim (λ (none : k ≡ 0). rw (inspected_moves s t a e z none) (moved_inside s inside e))
        (λ (n : k ≢ 0). rw (inspected_stops s t a e z k refl n) inside)
        (same_or_not k 0))
        (λ (n : s.rule ≢ 0). rw (inspected_stays s t a e n) inside)
        (same_or_not s.rule 0)

  all_same : (es : List Entry) (s : Inspection) → Inside s → inspected_all s t a es ≡ inspected_all s u b es
  unfolding inspected_all
  all_same [] s inside = refl
  all_same (e ∷ es) s inside =
      all_same es (inspected s t a e) (inspected_inside s inside e) ∙ ap (λ (x : Inspection). inspected_all x u b es) (inspected_same s inside e)

  begun_inside : Inside (begun t a)
  unfolding begun
  begun_inside = omega arith

  pub inspection_same : (es : List Entry) → inspection_of t a es ≡ inspection_of u b es
  inspection_same es = all_same es (begun t a) begun_inside ∙ ap (λ (x : Inspection). inspected_all x u b es) begun_same
