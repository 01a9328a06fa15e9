-- Lists of differences: what is in them, how they are put together, and that a rising list is told by what is in it.
use Prim.Native.Nat.{ℕ, zero, suc, ◌≤◌, ◌<◌}
use mathlib.Core.Path.{◌≡◌, refl, sym, ap, subst, ◌∙◌}
use mathlib.Core.Bool.{true, false}
use mathlib.Core.List.{List, [], ◌∷◌, ◌++◌}
use mathlib.Core.Logic.{◌⊎◌, inl, inr, ◌≢◌, ⊎_elim}
use native.Mathlib.Omega.{arith}
use borrow.Author.Tests.{eqb-false, ne_eqb}
use lib.Dec.{eqb}
use Rattle.units.proofs.SmallLaws.{below_or_not}
use Rattle.units.proofs.JudgingLaws.{true_or_false}
use Rattle.differences.specs.Differences.{Difference, changed, gathered, position, In, Rising}

-- ---- what is in a list

pub in_left : (d : Difference) (xs ys : List Difference) → In d xs → In d (xs ++ ys)
in_left d [] ys h = absurd h
in_left d (x ∷ xs) ys (inl e) = inl e
in_left d (x ∷ xs) ys (inr h) = inr (in_left d xs ys h)

pub in_right : (d : Difference) (xs ys : List Difference) → In d ys → In d (xs ++ ys)
in_right d [] ys h = h
in_right d (x ∷ xs) ys h = inr (in_right d xs ys h)

pub in_either : (d : Difference) (xs ys : List Difference) → In d (xs ++ ys) → In d xs ⊎ In d ys
in_either d [] ys h = inr h
in_either d (x ∷ xs) ys (inl e) = inl (inl e)
in_either d (x ∷ xs) ys (inr h) = ⊎_elim (λ a. inl (inr a)) (λ b. inr b) (in_either d xs ys h)

pub in_gathered : (d : Difference) (n k : ℕ) (f : ℕ → List Difference) → k < n → In d (f k) → In d (gathered n f)
unfolding gathered
in_gathered d zero k f l h = absurd (omega arith)
in_gathered d (suc n) k f l h =
    ⊎_elim (λ (b : k < n). in_left d (gathered n f) (f n) (in_gathered d n k f b h))
    (λ (b : n ≤ k). let e : k ≡ n = omega arith in in_right d (gathered n f) (f n) (subst (λ (x : ℕ). In d (f x)) e h))
    (below_or_not k n)

pub gathered_in : (d : Difference) (n : ℕ) (f : ℕ → List Difference) → In d (gathered n f) → (k : ℕ) × ((k < n) × In d (f k))
unfolding gathered
gathered_in d zero f h = absurd h
gathered_in d (suc n) f h =
    ⊎_elim (λ (a : In d (gathered n f)). let w = gathered_in d n f a in (w.0, (omega (arith, w.1.0), w.1.1)))
    (λ (b : In d (f n)). (n, (omega arith, b)))
    (in_either d (gathered n f) (f n) h)

-- ---- two numbers

module _ (make : ℕ → ℕ → Difference) (old new : ℕ) where
  pub in_changed : old ≢ new → In (make old new) (changed make old new)
  unfolding changed
  in_changed n = rw (ne_eqb old new n) (inl refl)

  pub changed_in : (d : Difference) → In d (changed make old new) → (d ≡ make old new) × (old ≢ new)
  unfolding changed
  changed_in d h =
      ⊎_elim (λ (e : eqb old new ≡ true). absurd (rw e at h))
      (λ (e : eqb old new ≡ false). (⊎_elim (λ q. q) (λ z. absurd z) (rw e at h), eqb-false old new e))
      (true_or_false (eqb old new))

  pub changed_rising : Rising (changed make old new)
  unfolding changed
  changed_rising =
      ⊎_elim (λ (e : eqb old new ≡ true). rw e tt) (λ (e : eqb old new ≡ false). rw e (λ d i. absurd i, tt)) (true_or_false (eqb old new))

-- ---- rising lists

pub rising_append : (xs ys : List Difference) → Rising xs → Rising ys → ((d e : Difference) → In d xs → In e ys → position d < position e) → Rising (xs ++ ys)
rising_append [] ys r s h = s
rising_append (x ∷ xs) ys r s h = (
  λ e i. ⊎_elim (λ a. r.0 e a) (λ b. h x e (inl refl) b) (in_either e xs ys i),
  rising_append xs ys r.1 s (λ d e i j. h d e (inr i) j),
)

pub rising_gathered : (n : ℕ) (f : ℕ → List Difference) → ((k : ℕ) → Rising (f k))
    → ((j k : ℕ) (d e : Difference) → j < k → k < n → In d (f j) → In e (f k) → position d < position e) → Rising (gathered n f)
unfolding gathered
rising_gathered zero f r h = tt
rising_gathered (suc n) f r h =
    rising_append (gathered n f) (f n) (rising_gathered n f r (λ j k d e l m. h j k d e l (omega arith))) (r n)
    (λ d e i j. let w = gathered_in d n f i in h w.0 n d e w.1.0 (omega arith) w.1.1 j)

-- two rising lists with the same differences in them are the same
pub same_lists : (xs ys : List Difference) → Rising xs → Rising ys → ((d : Difference) → In d xs → In d ys) → ((d : Difference) → In d ys → In d xs) → xs ≡ ys
same_lists [] [] r s f g = refl
same_lists [] (y ∷ ys) r s f g = absurd (g y (inl refl))
same_lists (x ∷ xs) [] r s f g = absurd (f x (inl refl))
same_lists (x ∷ xs) (y ∷ ys) r s f g =
    let first : x ≡ y =
    ⊎_elim (λ (a : x ≡ y). a)
    (λ (b : In x ys). ⊎_elim (λ (a : y ≡ x). sym a) (λ (c : In y xs). absurd (omega (arith, s.0 x b, r.0 y c))) (g y (inl refl)))
    (f x (inl refl)) in
    let rest : xs ≡ ys =
    same_lists xs ys r.1 s.1
    (λ d i. ⊎_elim (λ (a : d ≡ y). absurd (omega (arith, r.0 d i, ap position (a ∙ sym first)))) (λ (b : In d ys). b) (f d (inr i)))
    (λ d i. ⊎_elim (λ (a : d ≡ x). absurd (omega (arith, s.0 d i, ap position (a ∙ first)))) (λ (b : In d xs). b) (g d (inr i))) in
    ap (λ (z : Difference). z ∷ xs) first ∙ ap (λ (zs : List Difference). y ∷ zs) rest
