-- The laws of words, for the proofs of this layer. No rule stands here.
use Prim.Native.Nat.{ℕ}
use mathlib.Core.Path.{◌≡◌, refl, sym}
use mathlib.Core.Bool.{Bool, true, false}
use mathlib.Core.List.{List}
use borrow.Author.Tests.{eq-eqb, eqb-true}
use lib.Dec.{eqb}
use lib.ListN.{length}
use lib.Seq.{ext_get_or}
use Rattle.std.specs.Str.{bytes_eq}
use Rattle.std.proofs.lemmas.Slice.Eq.{bytes_eq-Decides}
use Rattle.units.specs.Places.{at, all_below}
use Rattle.units.proofs.PlaceLaws.{all_at, all_of}
use Rattle.units.proofs.JudgingLaws.{and-true, true_and}
use Rattle.commands.specs.Words.{same_bytes}

-- ---- two words are the same

pub same_word_lem : (v w : List ℕ) → same_bytes v w ≡ true → w ≡ v
unfolding same_bytes
same_word_lem v w e =
    let both = and-true (eqb (length v) (length w)) (all_below (length v) (λ i. eqb (at v i) (at w i))) e in
    let long : length v ≡ length w = eqb-true _ _ both.0 in
    sym (ext_get_or 0 v w long (λ i h. eqb-true _ _ (all_at (length v) _ both.1 i h)))

same_itself : (v : List ℕ) → same_bytes v v ≡ true
unfolding same_bytes
same_itself v = true_and _ _ (eq-eqb _ _ refl) (all_of (length v) (λ i. eqb (at v i) (at v i)) (λ i h. eq-eqb _ _ refl))

same_itself_by : (v w : List ℕ) → v ≡ w → same_bytes v w ≡ true
same_itself_by v w e = rw e (same_itself w)

both_or_none : (a b : Bool) → (a ≡ true → b ≡ true) → (b ≡ true → a ≡ true) → a ≡ b
both_or_none true b f g = sym (f refl)
both_or_none false true f g = g refl
both_or_none false false f g = refl

-- what `==` says of two words
pub same_by_eq : (v w : List ℕ) → bytes_eq v w ≡ same_bytes v w
same_by_eq v w =
    both_or_none (bytes_eq v w) (same_bytes v w) (λ e. same_itself_by v w ((bytes_eq-Decides v w).0 e))
    (λ e. (bytes_eq-Decides v w).1 (sym (same_word_lem v w e)))
