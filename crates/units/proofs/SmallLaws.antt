-- The laws of the small arithmetic, once for all layers.
use Prim.Native.Nat.{ℕ, zero, suc, ◌+◌, ◌-◌, ◌*◌, ◌^◌, ◌≤◌, ◌<◌, zero-le, suc-le-suc}
use mathlib.Core.Path.{◌≡◌, ap, ◌∙◌}
use mathlib.Core.Logic.{◌⊎◌, inl, inr, ⊎_elim}
use native.Mathlib.Omega.{arith}
use native.Mathlib.Nat.{lt-mul-div-succ, div-lt_iff_lt-mul, mul-add, mul-one, mul_comm, add-mul, one-mul, mul-le-mul_right}
use Rattle.units.specs.Small.{rounded_up}

-- of two numbers the first is below, or it is not
pub below_or_not : (a b : ℕ) → (a < b) ⊎ (b ≤ a)
below_or_not a zero = inr zero-le
below_or_not zero (suc b) = inl (suc-le-suc zero-le)
below_or_not (suc a) (suc b) = ⊎_elim (λ p. inl (suc-le-suc p)) (λ q. inr (suc-le-suc q)) (below_or_not a b)

pub one_more_lem : (m x : ℕ) → (m + 1) * x ≡ m * x + x
one_more_lem m x = add-mul m 1 x ∙ ap (λ (z : ℕ). m * x + z) (one-mul x)

-- the product of two 32-bit numbers leaves room for a third, in 64 bits
pub product_room : (a b x : ℕ) → a < 2 ^ 32 → b < 2 ^ 32 → x < 2 ^ 32 → a * b + x < 2 ^ 64
product_room a b x p q r =
    let l : (a + 1) * b ≤ 2 ^ 32 * b = mul-le-mul_right b (omega arith) in
    omega (arith, one_more_lem a b)

-- and for one of the two once more
pub product_small : (a b : ℕ) → a < 2 ^ 32 → b < 2 ^ 32 → a * b + b < 2 ^ 64
product_small a b p q = product_room a b b p q q

-- b shares of the rounded-up size are enough for a
pub shares_enough : (a b : ℕ) → 0 < b → a ≤ b * rounded_up a b
shares_enough a b pos =
    let l : a + (b - 1) < b * (rounded_up a b + 1) = lt-mul-div-succ (a + (b - 1)) pos in
    let e : b * (rounded_up a b + 1) ≡ b * rounded_up a b + b = mul-add b (rounded_up a b) 1 ∙ ap (λ (z : ℕ). b * rounded_up a b + z) (mul-one b) in
    omega arith

-- and no smaller size is
pub shares_least : (a b z : ℕ) → 0 < b → a ≤ b * z → rounded_up a b ≤ z
shares_least a b z pos h =
    let e : (z + 1) * b ≡ z * b + b = one_more_lem z b in
    let k : b * z ≡ z * b = mul_comm b z in
    let l : a + (b - 1) < (z + 1) * b = omega arith in
    let q : rounded_up a b < z + 1 = (div-lt_iff_lt-mul pos).1 l in
    omega arith
