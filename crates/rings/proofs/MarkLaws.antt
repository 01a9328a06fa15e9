-- The laws of marking, for the proofs of this layer and those above.
use Prim.Native.Nat.{ℕ, zero, suc, ◌<◌}
use mathlib.Core.Path.{◌≡◌, refl, ◌∙◌}
use mathlib.Core.Bool.{Bool, true, false}
use mathlib.Core.Logic.{◌≢◌, ⊎_elim}
use native.Mathlib.Omega.{arith}
use borrow.Author.Tests.{ltb-true}
use lib.Dec.{ltb}
use Rattle.units.specs.Judging.{or_else}
use Rattle.units.specs.Places.{at}
use Rattle.units.proofs.JudgingLaws.{passed, true_or_false}
use Rattle.units.specs.declared.Station.{Station}
use Rattle.rings.specs.State.{count, Marked, Unmarked}
use Rattle.rings.proofs.TimerLaws.{marked_true, marked_false}
use Rattle.rings.specs.Sound.{Sound, is_sound}
use Rattle.rings.proofs.RingLaws.{sound_sentences, sound_plan}
use Rattle.rings.specs.Marking.{mark_number, switched_through, marked_ring, none_withdrawn, withdraws, withdrawal, marked_with, switched_in, unmarked_with}
use Rattle.rings.specs.declared.Ring.{Ring}

-- ---- the ring and the answer, by the mark and the message

pub ring_marked : (r : Ring) (i : ℕ) → Marked r i → marked_ring r i ≡ r
unfolding marked_ring
ring_marked r i m = rw (marked_true r i m)

pub ring_unmarked : (r : Ring) (i : ℕ) → Unmarked r i → marked_ring r i ≡ switched_through r i
unfolding marked_ring
ring_unmarked r i u = rw (marked_false r i u)

pub withdrawn : (r : Ring) (i : ℕ) → withdraws r i ≡ true
    → withdrawal r i ≡ record { rest = record { 0 = at r.rest i }; arrival = record { 0 = at r.arrival i }; withdrawn = 1; number = 0 }
unfolding withdrawal
withdrawn r i h = rw h

pub not_withdrawn : (r : Ring) (i : ℕ) → withdraws r i ≡ false → withdrawal r i ≡ none_withdrawn 0
unfolding withdrawal
not_withdrawn r i h = rw h

-- what is withdrawn comes with the number 0
pub withdrawal_number : (r : Ring) (i : ℕ) → (withdrawal r i).number ≡ 0
withdrawal_number r i =
    ⊎_elim (λ (e : withdraws r i ≡ true). rw (withdrawn r i e)) (λ (e : withdraws r i ≡ false). rw (not_withdrawn r i e)) (true_or_false (withdraws r i))

-- ---- the answers, number by number

-- the number that is asked for is the call's
pub number_is : (r : Ring) (s : Station) {steady : Bool} {number : ℕ} → steady ≡ is_sound r → number ≡ or_else steady 8 (or_else (ltb s.0 (count r)) 9 0) → number ≡ mark_number r s
number_is r s sound is = is ∙ (λ i. or_else (sound i) 8 (or_else (ltb s.0 (count r)) 9 0))

pub marked_refused : (k : ℕ) (r : Ring) (s : Station) → k ≢ 0 → marked_with k r s ≡ record { ring = r; answer = none_withdrawn k }
unfolding marked_with
marked_refused zero r s h = absurd (h refl)
marked_refused (suc k) r s h = refl

pub marked_accepted : (k : ℕ) (r : Ring) (s : Station) → k ≡ 0 → marked_with k r s ≡ record { ring = marked_ring r s.0; answer = withdrawal r s.0 }
unfolding marked_with
marked_accepted k r s h = rw h

pub unmarked_refused : (k : ℕ) (r : Ring) (s : Station) → k ≢ 0 → unmarked_with k r s ≡ record { ring = r; number = k }
unfolding unmarked_with
unmarked_refused zero r s h = absurd (h refl)
unmarked_refused (suc k) r s h = refl

pub unmarked_accepted : (k : ℕ) (r : Ring) (s : Station) → k ≡ 0 → unmarked_with k r s ≡ record { ring = switched_in r s.0; number = 0 }
unfolding unmarked_with
unmarked_accepted k r s h = rw h

-- an accepted call's ring is sound, and its station one of the ring's
pub mark_passed : (r : Ring) (s : Station) → mark_number r s ≡ 0 → Sound r × (s.0 < count r)
mark_passed r s h =
    let p₈ = passed (is_sound r) 8 _ (omega arith) h in
    let p₉ = passed (ltb s.0 (count r)) 9 0 (omega arith) p₈.1 in
    (sound_sentences r p₈.0, ltb-true _ _ p₉.0)

pub mark_inside : (r : Ring) (s : Station) → mark_number r s ≡ 0 → s.0 < 128
mark_inside r s h =
    let p = mark_passed r s h in
    omega (arith, p.1, (sound_plan r p.0).0.1)
