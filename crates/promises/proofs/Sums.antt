-- Prefix sums: how they grow, how one changed place changes them, and two vectors of which one is below the other.
use Prim.Native.Nat.{ℕ, zero, suc, ◌+◌, ◌-◌, ◌≤◌, ◌<◌}
use mathlib.Core.Path.{◌≡◌, refl}
use mathlib.Core.Logic.{◌≢◌, ⊎_elim}
use native.Mathlib.Omega.{arith}
use Rattle.units.specs.Places.{sum_below}
use Rattle.units.proofs.PlaceLaws.{sum_same}
use Rattle.units.proofs.SmallLaws.{below_or_not}

-- a longer prefix has at least the sum of a shorter one, and of the place after it
pub sum_grows : (k i : ℕ) (f : ℕ → ℕ) → i ≤ k → sum_below i f ≤ sum_below k f
unfolding sum_below
sum_grows zero i f l =
    let e : i ≡ 0 = omega arith in
    rw e (omega arith)
sum_grows (suc k) i f l =
    ⊎_elim (λ (b : i < suc k). omega (arith, sum_grows k i f (omega arith)))
    (λ (b : suc k ≤ i). let e : i ≡ suc k = omega arith in rw e (omega arith))
    (below_or_not i (suc k))

-- one place is changed: a prefix past it changes by as much
pub sum_changed : (k p : ℕ) (f g : ℕ → ℕ) → p < k → ((i : ℕ) → i ≢ p → g i ≡ f i) → sum_below k g + f p ≡ sum_below k f + g p
unfolding sum_below
sum_changed zero p f g l same = absurd (omega arith)
sum_changed (suc k) p f g l same =
    ⊎_elim (λ (b : p < k).
    let e : g k ≡ f k = same k (omega arith) in
    omega (arith, sum_changed k p f g b same))
    (λ (b : k ≤ p).
    let e : p ≡ k = omega arith in
    let d : sum_below k g ≡ sum_below k f = sum_same k g f (λ i m. same i (omega arith)) in
    rw e (omega arith))
    (below_or_not p k)

-- a prefix up to it stays
pub sum_kept : (k p : ℕ) (f g : ℕ → ℕ) → k ≤ p → ((i : ℕ) → i ≢ p → g i ≡ f i) → sum_below k g ≡ sum_below k f
sum_kept k p f g l same = sum_same k g f (λ i m. same i (omega arith))

-- from place i on to k, what f lacks of g is at least what it lacks at i
pub sum_between : (k i : ℕ) (f g : ℕ → ℕ) → i < k → ((j : ℕ) → j < k → f j ≤ g j) → sum_below k f + sum_below i g + g i ≤ sum_below i f + sum_below k g + f i
unfolding sum_below
sum_between zero i f g l below = absurd (omega arith)
sum_between (suc k) i f g l below =
    ⊎_elim (λ (b : i < k). omega (arith, below k (omega arith), sum_between k i f g b (λ j m. below j (omega arith))))
    (λ (b : k ≤ i). let e : i ≡ k = omega arith in rw e (omega arith))
    (below_or_not i k)

-- what f lacks of g, place by place, makes up the difference of the sums
pub sum_lacking : (k : ℕ) (f g : ℕ → ℕ) → ((j : ℕ) → j < k → f j ≤ g j) → sum_below k (λ i. g i - f i) + sum_below k f ≡ sum_below k g
unfolding sum_below
sum_lacking zero f g below = refl
sum_lacking (suc k) f g below =
    let l : f k ≤ g k = below k (omega arith) in
    omega (arith, sum_lacking k f g (λ j m. below j (omega arith)))
