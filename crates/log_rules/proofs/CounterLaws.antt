-- The laws of the recorder's counter: arithmetic modulo 2^32.
use Prim.Native.Nat.{ℕ, ◌+◌, ◌-◌, ◌*◌, ◌/◌, ◌%◌, ◌^◌, ◌≤◌, ◌<◌}
use mathlib.Core.Path.{◌≡◌}
use mathlib.Core.Logic.{⊎_elim}
use native.Mathlib.Nat.{div-add-mod'}
use native.Mathlib.Omega.{arith}
use Rattle.units.proofs.SmallLaws.{below_or_not}
use Rattle.logs.specs.Writing.{low, rise, counter_at}

pub counter_rises : (counter clock later : ℕ) → clock ≤ later → counter_at counter clock later ≡ (counter + (later - clock)) % 2 ^ 32
unfolding counter_at rise
counter_rises counter clock later l = omega arith

pub counter_wraps : (clock : ℕ) → counter_at 4_294_967_295 clock (clock + 1) ≡ 0
unfolding counter_at rise
counter_wraps clock = omega arith

-- numbers that differ by multiples of 2^32 have the same low 32 bits
same_low : (a b j k : ℕ) → a + j * 4_294_967_296 ≡ b + k * 4_294_967_296 → a % 2 ^ 32 ≡ b % 2 ^ 32
same_low a b j k e = omega arith

-- what the counter rises by brings the low bits of the one clock to those of the other, or once past the top
rise_carry : (before later : ℕ) → (k : ℕ) × (rise before later + low before ≡ low later + k * 4_294_967_296)
unfolding rise
rise_carry before later =
    ⊎_elim (λ (b : low later < low before). (1, omega arith)) (λ (b : low before ≤ low later). (0, omega arith)) (below_or_not (low later) (low before))

carried : (counter q y lb lc ll r₁ r₂ r₃ k₁ k₂ k₃ : ℕ) → q * 4_294_967_296 + y ≡ counter + r₁ → r₁ + lc ≡ lb + k₁ * 4_294_967_296 → r₂ + lb ≡ ll + k₂ * 4_294_967_296
    → r₃ + lc ≡ ll + k₃ * 4_294_967_296 → y + r₂ + (q + k₃) * 4_294_967_296 ≡ counter + r₃ + (k₁ + k₂) * 4_294_967_296
carried counter q y lb lc ll r₁ r₂ r₃ k₁ k₂ k₃ d e₁ e₂ e₃ = omega arith

pub counter_on : (counter clock between later : ℕ) → counter_at (counter_at counter clock between) between later ≡ counter_at counter clock later
unfolding counter_at
counter_on counter clock between later =
    let x = counter + rise clock between in
    let c₁ = rise_carry clock between in
    let c₂ = rise_carry between later in
    let c₃ = rise_carry clock later in
    same_low (x % 2 ^ 32 + rise between later) (counter + rise clock later) (x / 2 ^ 32 + c₃.0) (c₁.0 + c₂.0)
    (carried counter (x / 2 ^ 32) (x % 2 ^ 32) (low between) (low clock) (low later) _ _ _ c₁.0 c₂.0 c₃.0 (div-add-mod' x (2 ^ 32)) c₁.1 c₂.1 c₃.1)

-- a counter from clock 0 on
pub counter_clock : (counter clock : ℕ) → counter_at counter 0 clock ≡ (counter + clock) % 2 ^ 32
unfolding counter_at rise
counter_clock counter clock = omega arith

pub counter_small : (counter clock later : ℕ) → counter_at counter clock later < 2 ^ 32
unfolding counter_at rise
counter_small counter clock later = omega arith
