-- A loop passes as many of the n places as there are, and is right for all n because the places past the end are not stored.
use Prim.Native.Nat.{ℕ, zero, suc, ◌+◌, ◌≤◌, ◌<◌, min}
use mathlib.Core.Path.{◌≡◌, sym, ◌∙◌}
use mathlib.Core.Bool.{Bool, ◌&&◌}
use mathlib.Core.List.{List}
use mathlib.Core.Logic.{⊎_elim}
use native.Mathlib.Numerals.{add-one}
use native.Mathlib.Omega.{arith}
use lib.ListN.{length}
use lib.Seq.{set_out}
use Rattle.units.specs.Places.{all_below, fill}
use Rattle.units.proofs.PlaceLaws.{all_step, fill_step, fill_length}
use Rattle.units.proofs.SmallLaws.{below_or_not}

-- what no place from the k-th on changes is the same for n places as for the smaller of n and k
settled : {A : Type 0} (g : ℕ → A) (k : ℕ) → ((i : ℕ) → k ≤ i → g (i + 1) ≡ g i) → (n : ℕ) → g (min n k) ≡ g n
settled g k same zero = let e : min 0 k ≡ 0 = omega arith in rw e
settled g k same (suc n) =
    ⊎_elim (λ (b : n < k). let e : min (suc n) k ≡ suc n = omega arith in rw e)
    (λ (b : k ≤ n).
    let e : min (suc n) k ≡ min n k = omega arith in
    rw (e, ← add-one) (settled g k same n ∙ sym (same n b)))
    (below_or_not n k)

module _ (f : ℕ → Bool) (i : ℕ) (all : Bool) (said : all ≡ all_below i f) where
  -- one turn: place i is tested too
  pub tested_next : (all && f i) ≡ all_below (i + 1) f
  tested_next = rw (all_step, said)

-- of an array of 128 no place past the end is stored
pub fill_all : (f : ℕ → ℕ) (xs : List ℕ) → length xs ≡ 128 → (n : ℕ) → fill (min n 128) f xs ≡ fill n f xs
fill_all f xs long = settled (λ m. fill m f xs) 128 (λ j l. fill_step j f xs ∙ set_out (fill j f xs) j (f j) (omega (arith, fill_length j f xs)))
