-- The laws of rows, of segments laid one after another, and of segments that stand at a place.
use Prim.Native.Nat.{ℕ, zero, suc, ◌+◌, ◌-◌, ◌*◌, ◌≤◌, ◌<◌}
use mathlib.Core.Path.{◌≡◌, refl, sym, ap, ◌∙◌}
use mathlib.Core.List.{List, [], ◌∷◌, ◌++◌}
use mathlib.Core.Logic.{⊎_elim}
use native.Mathlib.Nat.{mul-zero, mul-suc, zero-add, add_assoc}
use native.Mathlib.Omega.{arith}
use lib.ListN.{length, set, length-append, get_or-append}
use lib.Seq.{sets-eq, get_or-append-add, ext_get_or}
use Rattle.units.specs.Places.{at}
use Rattle.units.proofs.SmallLaws.{below_or_not}
use Rattle.fields.specs.Rows.{rows, laid}
use Rattle.fields.proofs.RowLaws.{rows_step, laid_then}

-- ---- rows

pub rows_length : (n step : ℕ) (f : ℕ → List ℕ) → ((i : ℕ) → length (f i) ≡ step) → length (rows n f) ≡ step * n
unfolding rows
rows_length zero step f h = sym (mul-zero step)
rows_length (suc n) step f h =
    omega (arith, length-append (rows n f) (f n), rows_length n step f h, h n, mul-suc step n)

-- the rows look at the first n only
pub rows_same : (n : ℕ) (f g : ℕ → List ℕ) → ((i : ℕ) → i < n → f i ≡ g i) → rows n f ≡ rows n g
unfolding rows
rows_same zero f g h = refl
rows_same (suc n) f g h =
    let e : rows n f ≡ rows n g = rows_same n f g (λ i l. h i (omega arith)) in
    let d : f n ≡ g n = h n (omega arith) in
    cc

-- ---- segments laid into a buffer

pub laid_one : (out : List ℕ) (a x : ℕ) → a + 1 ≤ length out → set out a x ≡ laid out a (x ∷ [])
unfolding laid
laid_one out a x h = sets-eq (x ∷ []) out a h

pub laid_three : (out : List ℕ) (a x y z : ℕ) → a + 3 ≤ length out → set (set (set out a x) (a + 1) y) (a + 2) z ≡ laid out a (x ∷ y ∷ z ∷ [])
unfolding laid
laid_three out a x y z h =
    let e₁ : a + 1 ≡ suc a = omega arith in
    let e₂ : a + 2 ≡ suc (suc a) = omega arith in
    rw (e₁, e₂) (sets-eq (x ∷ y ∷ z ∷ []) out a h)

pub laid_four : (out : List ℕ) (a x y z u : ℕ) → a + 4 ≤ length out → set (set (set (set out a x) (a + 1) y) (a + 2) z) (a + 3) u ≡ laid out a (x ∷ y ∷ z ∷ u ∷ [])
unfolding laid
laid_four out a x y z u h =
    let e₁ : a + 1 ≡ suc a = omega arith in
    let e₂ : a + 2 ≡ suc (suc a) = omega arith in
    let e₃ : a + 3 ≡ suc (suc (suc a)) = omega arith in
    rw (e₁, e₂, e₃) (sets-eq (x ∷ y ∷ z ∷ u ∷ []) out a h)

-- ---- segments that stand at a place

-- the bytes of the segment stand in bs from the place a on
pub record Stands (bs : List ℕ) (a : ℕ) (segment : List ℕ) : Type 0 where
  pub fits : a + length segment ≤ length bs
  pub same : (i : ℕ) → i < length segment → at bs (a + i) ≡ at segment i

pub stands_itself : (bs : List ℕ) → Stands bs 0 bs
stands_itself bs = record { fits = omega arith; same = λ i l. rw zero-add }

-- a list that stands at the start of one as long is that list
pub stands_whole : (bs s : List ℕ) → Stands bs 0 s → length bs ≡ length s → bs ≡ s
stands_whole bs s h e = ext_get_or 0 bs s e (λ i l. rw zero-add at (h.same i (omega arith)))

module _ (bs : List ℕ) (a : ℕ) (s t : List ℕ) where
  pub stands_left : Stands bs a (s ++ t) → Stands bs a s
  stands_left h =
      record {
        fits = omega (arith, h.fits, length-append s t);
        same = λ i l. h.same i (omega (arith, length-append s t)) ∙ get_or-append s t 0 i l;
      }

  pub stands_right : Stands bs a (s ++ t) → Stands bs (a + length s) t
  stands_right h =
      record {
        fits = omega (arith, h.fits, length-append s t);
        same = λ i l. rw add_assoc (h.same (length s + i) (omega (arith, length-append s t)) ∙ get_or-append-add s t i 0);
      }

  pub stands_join : Stands bs a s → Stands bs (a + length s) t → Stands bs a (s ++ t)
  stands_join h k =
      record {
        fits = omega (arith, k.fits, length-append s t);
        same = λ i l.
            ⊎_elim (λ (b : i < length s). h.same i b ∙ sym (get_or-append s t 0 i b))
            (λ (b : length s ≤ i). past i b (omega (arith, length-append s t)))
            (below_or_not i (length s));
      }
    where
      past : (i : ℕ) → length s ≤ i → i < length s + length t → at bs (a + i) ≡ at (s ++ t) i
      past i b l =
          let j = i - length s in
          let e : i ≡ length s + (i - length s) = omega arith in
          let p : a + i ≡ a + length s + (i - length s) = omega arith in
          let q : at bs (a + length s + (i - length s)) ≡ at t (i - length s) = k.same (i - length s) (omega arith) in
          let r : at (s ++ t) (length s + (i - length s)) ≡ at t (i - length s) = get_or-append-add s t (i - length s) 0 in
          ap (at bs) p ∙ q ∙ sym r ∙ sym (ap (at (s ++ t)) e)

-- row i of n like rows stands at a + step·i
pub stands_row : (bs : List ℕ) (a n step : ℕ) (f : ℕ → List ℕ) → ((i : ℕ) → length (f i) ≡ step) → Stands bs a (rows n f) → (i : ℕ) → i < n → Stands bs (a + step * i) (f i)
unfolding rows
stands_row bs a zero step f long h i l = absurd (omega arith)
stands_row bs a (suc n) step f long h i l =
    ⊎_elim (λ (b : i < n). stands_row bs a n step f long (stands_left bs a (rows n f) (f n) h) i b)
    (λ (b : n ≤ i).
    let e : i ≡ n = omega arith in
    rw (e, ← rows_length n step f long) (stands_right bs a (rows n f) (f n) h))
    (below_or_not i n)

pub rows_stand : (bs : List ℕ) (a n step : ℕ) (f : ℕ → List ℕ) → ((i : ℕ) → length (f i) ≡ step)
    → a + step * n ≤ length bs → ((i : ℕ) → i < n → Stands bs (a + step * i) (f i)) → Stands bs a (rows n f)
unfolding rows
rows_stand bs a zero step f long fit h = record { fits = omega (arith, mul-zero step); same = λ i l. absurd (omega arith) }
rows_stand bs a (suc n) step f long fit h =
    stands_join bs a (rows n f) (f n)
    (rows_stand bs a n step f long (omega (arith, mul-suc step n)) (λ i l. h i (omega arith)))
    (rw (rows_length n step f long) (h n (omega arith)))

-- ---- segments laid one after another

-- what stands behind what was laid makes one segment with it
pub laid_more : (o₀ o o' : List ℕ) (a b : ℕ) (s t : List ℕ) → o ≡ laid o₀ a s → b ≡ a + length s → o' ≡ laid o b t → b + length t ≤ length o₀ → o' ≡ laid o₀ a (s ++ t)
laid_more o₀ o o' a b s t e p d fit =
    d ∙ rw (e, p) (laid_then o₀ a s t (omega arith))

-- the next row behind the rows that were laid
pub rows_then : (o₀ o o' : List ℕ) (a b n step : ℕ) (f : ℕ → List ℕ) → ((i : ℕ) → length (f i) ≡ step)
    → o ≡ laid o₀ a (rows n f) → b ≡ a + step * n → o' ≡ laid o b (f n) → b + step ≤ length o₀ → o' ≡ laid o₀ a (rows (n + 1) f)
rows_then o₀ o o' a b n step f long e p d fit =
    rw rows_step
    (laid_more o₀ o o' a b (rows n f) (f n) e (omega (arith, rows_length n step f long)) d (omega (arith, long n)))
