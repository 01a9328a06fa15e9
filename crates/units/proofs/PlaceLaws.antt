-- The laws of sums, tests and fills over the first n places, once for all layers.
use Prim.Native.Nat.{ℕ, zero, suc, ◌+◌, ◌-◌, ◌≤◌, ◌<◌, min}
use mathlib.Core.Path.{◌≡◌, refl, sym, ap, ◌∙◌}
use mathlib.Core.Bool.{Bool, true, ◌&&◌}
use mathlib.Core.List.{List, [], ◌∷◌}
use mathlib.Core.Logic.{⊎_elim}
use native.Mathlib.Numerals.{add-one}
use native.Mathlib.Omega.{arith}
use lib.ListN.{length, get_or, set, replicate, length-set, get_or-replicate, get_or-eq_default}
use lib.Seq.{get_or-set_same, get_or-set_other}
use Rattle.units.specs.Places.{at, sum_below, sum_from, all_below, fill, raise}
use Rattle.units.proofs.SmallLaws.{below_or_not}
use Rattle.units.proofs.JudgingLaws.{and-true, true_and}
use Rattle.units.specs.Judging.{Decides}

-- ---- one more place: where the code's i + 1 meets the definitions' suc i

pub sum_step : (n : ℕ) (f : ℕ → ℕ) → sum_below (n + 1) f ≡ sum_below n f + f n
unfolding sum_below
sum_step n f = rw add-one

pub all_step : (n : ℕ) (f : ℕ → Bool) → all_below (n + 1) f ≡ (all_below n f && f n)
unfolding all_below
all_step n f = rw add-one

-- a loop's turn: a flag for the first n places and one for the next are the flag for n + 1
pub all_then : (n : ℕ) (f : ℕ → Bool) (all one : Bool) → all ≡ all_below n f → one ≡ f n → (all && one) ≡ all_below (n + 1) f
all_then n f all one p q = rw (p, q) (sym (all_step n f))

pub fill_step : (n : ℕ) (f : ℕ → ℕ) (xs : List ℕ) → fill (n + 1) f xs ≡ set (fill n f xs) n (f n)
unfolding fill
fill_step n f xs = rw add-one

-- a loop's turn: a list filled at the first n places, with the next one stored, is filled at n + 1
pub fill_then : (n : ℕ) (f : ℕ → ℕ) (xs ys : List ℕ) (v : ℕ) → ys ≡ fill n f xs → v ≡ f n → set ys n v ≡ fill (n + 1) f xs
fill_then n f xs ys v p q = rw (p, q) (sym (fill_step n f xs))

-- ---- no place yet: where a loop begins

pub sum_none : (f : ℕ → ℕ) → sum_below 0 f ≡ 0
unfolding sum_below
sum_none f = refl

pub all_none : (f : ℕ → Bool) → all_below 0 f ≡ true
unfolding all_below
all_none f = refl

pub fill_none : (f : ℕ → ℕ) (xs : List ℕ) → fill 0 f xs ≡ xs
unfolding fill
fill_none f xs = refl

-- every place of a blank array is 0
pub zero_at : (i : ℕ) → at (replicate 128 0) i ≡ 0
zero_at i =
    ⊎_elim (λ (b : i < 128). get_or-replicate 128 i 0 0 b) (λ (b : 128 ≤ i). get_or-eq_default (replicate 128 0) 0 b) (below_or_not i 128)

-- ---- sums

-- the sum looks at the first n places only
pub sum_same : (n : ℕ) (f g : ℕ → ℕ) → ((i : ℕ) → i < n → f i ≡ g i) → sum_below n f ≡ sum_below n g
unfolding sum_below
sum_same zero f g h = refl
sum_same (suc n) f g h =
    let e : sum_below n f ≡ sum_below n g = sum_same n f g (λ i l. h i (omega arith)) in
    let d : f n ≡ g n = h n (omega arith) in
    cc

pub sum_mono : (n : ℕ) (f g : ℕ → ℕ) → ((i : ℕ) → i < n → f i ≤ g i) → sum_below n f ≤ sum_below n g
unfolding sum_below
sum_mono zero f g h = omega arith
sum_mono (suc n) f g h =
    let e : sum_below n f ≤ sum_below n g = sum_mono n f g (λ i l. h i (omega arith)) in
    let d : f n ≤ g n = h n (omega arith) in
    omega arith

-- one place is at most the whole
pub sum_part_lem : (n : ℕ) (f : ℕ → ℕ) (i : ℕ) → i < n → f i ≤ sum_below n f
unfolding sum_below
sum_part_lem zero f i l = omega arith
sum_part_lem (suc n) f i l =
    ⊎_elim (λ (b : i < n). let e : f i ≤ sum_below n f = sum_part_lem n f i b in omega arith)
    (λ (b : n ≤ i). let e : i ≡ n = omega arith in rw e (omega arith))
    (below_or_not i n)

-- places past the end add nothing
pub sum_held : (xs : List ℕ) (n : ℕ) → sum_below (min n (length xs)) (at xs) ≡ sum_below n (at xs)
unfolding sum_below
sum_held xs zero = let e : min 0 (length xs) ≡ 0 = omega arith in rw e
sum_held xs (suc n) =
    ⊎_elim (λ (b : n < length xs). let e : min (suc n) (length xs) ≡ suc n = omega arith in rw e)
    (λ (b : length xs ≤ n).
    let e : min (suc n) (length xs) ≡ min n (length xs) = omega arith in
    let z : get_or xs n 0 ≡ 0 = get_or-eq_default xs 0 b in
    rw (e, z) (omega (arith, sum_held xs n)))
    (below_or_not n (length xs))

-- nor do those of an array of 128
pub sum_all : (xs : List ℕ) → length xs ≡ 128 → (n : ℕ) → sum_below (min n 128) (at xs) ≡ sum_below n (at xs)
sum_all xs long n = rw long at (sum_held xs n)

-- ---- tests

-- the test looks at the first n places only
pub all_same : (n : ℕ) (f g : ℕ → Bool) → ((i : ℕ) → i < n → f i ≡ g i) → all_below n f ≡ all_below n g
unfolding all_below
all_same zero f g h = refl
all_same (suc n) f g h =
    let e : all_below n f ≡ all_below n g = all_same n f g (λ i l. h i (omega arith)) in
    let d : f n ≡ g n = h n (omega arith) in
    cc

-- the test over n places decides what its parts decide, at each of the n places
pub all_at : (n : ℕ) (f : ℕ → Bool) → all_below n f ≡ true → (i : ℕ) → i < n → f i ≡ true
unfolding all_below
all_at zero f h i l = absurd (omega arith)
all_at (suc n) f h i l =
    let w : (all_below n f ≡ true) × (f n ≡ true) = and-true (all_below n f) (f n) h in
    ⊎_elim (λ (b : i < n). all_at n f w.0 i b)
    (λ (b : n ≤ i). let e : i ≡ n = omega arith in rw e w.1)
    (below_or_not i n)

pub all_of : (n : ℕ) (f : ℕ → Bool) → ((i : ℕ) → i < n → f i ≡ true) → all_below n f ≡ true
unfolding all_below
all_of zero f h = refl
all_of (suc n) f h = true_and (all_below n f) (f n) (all_of n f (λ i l. h i (omega arith))) (h n (omega arith))

pub decides_all : (n : ℕ) (f : ℕ → Bool) (P : ℕ → Type 0) → ((i : ℕ) → Decides (f i) (P i)) → Decides (all_below n f) ((i : ℕ) → i < n → P i)
decides_all n f P d =
    (λ h i l. (d i).0 (all_at n f h i l), λ h. all_of n f (λ i l. (d i).1 (h i l)))

-- ---- fills

pub fill_length : (n : ℕ) (f : ℕ → ℕ) (xs : List ℕ) → length (fill n f xs) ≡ length xs
unfolding fill
fill_length zero f xs = refl
fill_length (suc n) f xs = length-set (fill n f xs) n (f n) ∙ fill_length n f xs

-- a filled place holds what it was filled with
pub fill_inside : (n : ℕ) (f : ℕ → ℕ) (xs : List ℕ) (i : ℕ) → i < n → n ≤ length xs → at (fill n f xs) i ≡ f i
unfolding fill
fill_inside zero f xs i l m = omega arith
fill_inside (suc n) f xs i l m =
    ⊎_elim (λ (b : i < n). get_or-set_other (fill n f xs) n i (f n) 0 (omega arith) ∙ fill_inside n f xs i b (omega arith))
    (λ (b : n ≤ i).
    let e : i ≡ n = omega arith in
    rw e (get_or-set_same (fill n f xs) n (f n) 0 (omega (arith, fill_length n f xs))))
    (below_or_not i n)

-- a place past the filled ones is as it was
pub fill_outside : (n : ℕ) (f : ℕ → ℕ) (xs : List ℕ) (i : ℕ) → n ≤ i → at (fill n f xs) i ≡ at xs i
unfolding fill
fill_outside zero f xs i l = refl
fill_outside (suc n) f xs i l = get_or-set_other (fill n f xs) n i (f n) 0 (omega arith) ∙ fill_outside n f xs i (omega arith)

-- the fill looks at the first n places only
pub fill_same : (n : ℕ) (f g : ℕ → ℕ) (xs : List ℕ) → ((i : ℕ) → i < n → f i ≡ g i) → fill n f xs ≡ fill n g xs
unfolding fill
fill_same zero f g xs h = refl
fill_same (suc n) f g xs h =
    let e : fill n f xs ≡ fill n g xs = fill_same n f g xs (λ i l. h i (omega arith)) in
    let d : f n ≡ g n = h n (omega arith) in
    cc

-- ---- sums from a place on

-- the places below i and those from i on are all places
pub sum_split : (n : ℕ) (f : ℕ → ℕ) (i : ℕ) → i ≤ n → sum_below i f + sum_from i n f ≡ sum_below n f
unfolding sum_below
sum_split zero f i l =
    let e : i ≡ 0 = omega arith in
    rw e refl
sum_split (suc n) f i l =
    ⊎_elim (λ (b : i < suc n).
    let d : suc n - i ≡ suc (n - i) = omega arith in
    let k : i + (n - i) ≡ n = omega arith in
    rw d (rw k (omega (arith, sum_split n f i (omega arith)))))
    (λ (b : suc n ≤ i).
    let e : i ≡ suc n = omega arith in
    let d : suc n - suc n ≡ 0 = omega arith in
    rw e (rw d (omega arith)))
    (below_or_not i (suc n))

-- from the first place on they are all
pub from_first : (n : ℕ) (f : ℕ → ℕ) → sum_from 0 n f ≡ sum_below n f
from_first n f = omega (arith, sum_split n f 0 (omega arith), sum_none f)

-- the first of them, and the others
pub from_step : (n : ℕ) (f : ℕ → ℕ) (i : ℕ) → i < n → sum_from i n f ≡ f i + sum_from (i + 1) n f
from_step n f i l = omega (arith, sum_split n f i (omega arith), sum_split n f (i + 1) (omega arith), sum_step i f)

-- ---- raised lists

pub raise_none : (x : ℕ) (xs : List ℕ) → raise 0 x xs ≡ xs
unfolding raise
raise_none x xs = fill_none (λ i. at xs i + x) xs

pub raise_length : (n x : ℕ) (xs : List ℕ) → length (raise n x xs) ≡ length xs
unfolding raise
raise_length n x xs = fill_length n (λ i. at xs i + x) xs

-- one of the first n places has risen by x
pub raise_inside : (n x : ℕ) (xs : List ℕ) (i : ℕ) → i < n → n ≤ length xs → at (raise n x xs) i ≡ at xs i + x
unfolding raise
raise_inside n x xs i l m = fill_inside n (λ j. at xs j + x) xs i l m

-- a place past them is as it was
pub raise_outside : (n x : ℕ) (xs : List ℕ) (i : ℕ) → n ≤ i → at (raise n x xs) i ≡ at xs i
unfolding raise
raise_outside n x xs i l = fill_outside n (λ j. at xs j + x) xs i l

-- one more place
pub raise_step : (n x : ℕ) (xs : List ℕ) → raise (n + 1) x xs ≡ set (raise n x xs) n (at (raise n x xs) n + x)
unfolding raise
raise_step n x xs =
    let e : at (fill n (λ i. at xs i + x) xs) n ≡ at xs n = fill_outside n (λ i. at xs i + x) xs n (omega arith) in
    fill_step n (λ i. at xs i + x) xs ∙ rw e

-- ---- one place set

-- a place set to 0 is no larger than it was, and no other changes
pub set_zero : (xs : List ℕ) (p i : ℕ) → at (set xs p 0) i ≤ at xs i
set_zero [] p i = omega arith
set_zero (x ∷ xs) zero zero = omega arith
set_zero (x ∷ xs) zero (suc i) = omega arith
set_zero (x ∷ xs) (suc p) zero = omega arith
set_zero (x ∷ xs) (suc p) (suc i) = set_zero xs p i

-- what holds of a place as it was, and of the new number where it is the place that is set, holds of it afterwards
pub set_each : (xs : List ℕ) (p i v : ℕ) (P : ℕ → Type 0) → P (at xs i) → (i ≡ p → P v) → P (at (set xs p v) i)
set_each [] p i v P h k = h
set_each (x ∷ xs) zero zero v P h k = k refl
set_each (x ∷ xs) zero (suc i) v P h k = h
set_each (x ∷ xs) (suc p) zero v P h k = h
set_each (x ∷ xs) (suc p) (suc i) v P h k = set_each xs p i v P h (λ e. k (ap suc e))
