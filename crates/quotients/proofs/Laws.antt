-- The laws of doubling and halving, for the two loops and for the promises.
use Prim.Native.Nat.{ℕ, zero, suc, ◌+◌, ◌-◌, ◌*◌, ◌/◌, ◌%◌, ◌^◌, ◌≤◌, ◌<◌}
use mathlib.Core.Path.{◌≡◌, sym, ap, ◌∙◌}
use native.Mathlib.Omega.{arith}
use native.Mathlib.Nat.{two-pow-succ, mul-add, add-mul, mul-one, mul-le-mul_left, div-add-mod', div-le_self, mod-le}
use lib.Arith.{digits_div, digits_mod}
use lib.Pow.{pow_pos}
use Rattle.units.proofs.SmallLaws.{one_more_lem}
use Rattle.quotients.specs.Division.{Divided}
use Rattle.quotients.specs.Turns.{Doubled}

-- ---- the divisor doubled

doubled_power : (d k : ℕ) → d * 2 ^ suc k ≡ d * 2 ^ k + d * 2 ^ k
doubled_power d k = rw two-pow-succ (mul-add d (2 ^ k) (2 ^ k))

pub one_turn : {d p : ℕ} → Doubled d p → Doubled d (p + p)
one_turn {d} h = record { turns = suc h.turns; is = omega (arith, doubled_power d h.turns) }

-- every part is at least the divisor
pub part_least : {d p : ℕ} → Doubled d p → d ≤ p
part_least {d} h =
    let l : d * 1 ≤ d * 2 ^ h.turns = mul-le-mul_left d (pow_pos h.turns) in
    omega (arith, mul-one d)

-- a part above the divisor is twice its half, and its half is a part
pub record Halved (d p : ℕ) : Type 0 where
  pub twice : p ≡ p / 2 + p / 2
  pub half : Doubled d (p / 2)

halved_by : (d p k : ℕ) → p ≡ d * 2 ^ k → d < p → Halved d p
halved_by d p zero is above =
    let e : d * 2 ^ zero ≡ d = mul-one d in
    absurd (omega arith)
halved_by d p (suc k) is above =
    let e : p ≡ d * 2 ^ k + d * 2 ^ k = is ∙ doubled_power d k in
    record { twice = omega arith; half = record { turns = k; is = omega arith } }

pub halved : {d p : ℕ} → Doubled d p → d < p → Halved d p
halved {d} {p} h above = halved_by d p h.turns h.is above

-- ---- what the way down keeps: the dividend a is the quotient q times the part p, and the rest r

pub record Kept (a p q r : ℕ) : Type 0 where
  pub is : a ≡ q * p + r
  pub below : r < p

twice_half : (q p h : ℕ) → p ≡ h + h → q * p ≡ (q + q) * h
twice_half q p h twice = ap (λ (x : ℕ). q * x) twice ∙ mul-add q h h ∙ sym (add-mul q q h)

-- the half does not fit into the rest
pub kept_out : {a p h q r : ℕ} → p ≡ h + h → r < h → Kept a p q r → Kept a h (q + q) r
kept_out {a} {p} {h} {q} {r} twice out kept = record { is = omega (arith, twice_half q p h twice); below = out }

-- the half fits, and is taken off
pub kept_in_lem : {a p h q r : ℕ} → p ≡ h + h → h ≤ r → Kept a p q r → Kept a h (q + q + 1) (r - h)
kept_in_lem {a} {p} {h} {q} {r} twice fits kept =
    record { is = omega (arith, twice_half q p h twice, one_more_lem (q + q) h); below = omega arith }

-- at the divisor itself the quotient and the rest are what a division hands back
pub kept_last : {a d q r : ℕ} → Kept a d q r → Divided a d q r
kept_last {a} {d} {q} {r} kept =
    let whole : q ≡ a / d = sym (ap (λ (x : ℕ). x / d) kept.is ∙ digits_div q kept.below) in
    let left : r ≡ a % d = sym (ap (λ (x : ℕ). x % d) kept.is ∙ digits_mod q kept.below) in
    record { whole = whole; left = left; small = rw whole (div-le_self a d); left_small = rw left (mod-le a d) }

-- ---- the dividend again

pub together : {a d q r : ℕ} → Divided a d q r → q * d + r ≡ a
together {a} {d} both = rw (both.whole, both.left) (div-add-mod' a d)
