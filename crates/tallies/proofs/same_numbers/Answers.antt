-- `same_numbers` is right because two arrays are equal where each place is.
use Rattle.std.proofs.Math.Bool.{and-true, and_assoc}
use Rattle.std.proofs.Common.{◌≡◌, ℕ, suc, zero, Bool, ◌&&◌, eqb, List, [], ◌∷◌, length, refl, sym, ap, ◌∙◌, arith}
use lib.Pointwise.{pointwise}
use Rattle.units.specs.Places.{at, all_below}
use Rattle.tallies.proofs.same_numbers.Goals as goal

-- the test of the first place, and of those behind it
all_first : (n : ℕ) (f : ℕ → Bool) → all_below (suc n) f ≡ (f 0 && all_below n (λ i. f (suc i)))
unfolding all_below
all_first zero f = sym (and-true (f 0))
all_first (suc n) f = rw (all_first n f) (and_assoc (f 0) (all_below n (λ i. f (suc i))) (f (suc n)))

same_below : (xs ys : List ℕ) → length xs ≡ length ys → pointwise eqb xs ys ≡ all_below (length xs) (λ i. eqb (at xs i) (at ys i))
unfolding all_below
same_below [] [] l = refl
same_below [] (y ∷ ys) l = absurd (omega arith)
same_below (x ∷ xs) [] l = absurd (omega arith)
same_below (x ∷ xs) (y ∷ ys) l =
    ap (λ (rest : Bool). eqb x y && rest) (same_below xs ys (omega arith)) ∙ sym (all_first (length xs) (λ i. eqb (at (x ∷ xs) i) (at (y ∷ ys) i)))

pub returns : goal.returns
returns c =
    let args = c.args in
    let long : length args.a ≡ 896 = omega arith in
    c.eq.ensures ∙ same_below args.a args.b (omega arith) ∙ ap (λ (n : ℕ). all_below n (λ i. eqb (at args.a i) (at args.b i))) long
