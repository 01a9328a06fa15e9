-- The laws of numbers in bytes.
use Prim.Native.Nat.{ℕ, zero, suc, ◌+◌, ◌*◌, ◌/◌, ◌%◌, ◌^◌, ◌≤◌, ◌<◌}
use mathlib.Core.Path.{◌≡◌, refl}
use mathlib.Core.List.{List, [], ◌∷◌}
use native.Mathlib.Nat.{add-zero, div-div-eq-div-mul, mod-eq_of_lt, div-lt_iff_lt-mul, div-add-mod'}
use native.Mathlib.Omega.{arith}
use lib.ListN.{length}
use Rattle.units.specs.Places.{at}
use Rattle.fields.specs.Bytes.{number_at, bytes_of, AllBytes}
use Rattle.fields.proofs.SegmentLaws.{Stands}

pub bytes_length : (x : ℕ) → length (bytes_of x) ≡ 4
unfolding bytes_of
bytes_length x = refl

put_together : (x q₁ q₂ q₃ r₀ r₁ r₂ : ℕ) → q₁ * 256 + r₀ ≡ x → q₂ * 256 + r₁ ≡ q₁ → q₃ * 256 + r₂ ≡ q₂ → q₃ * 16_777_216 + r₂ * 65_536 + r₁ * 256 + r₀ ≡ x
put_together x q₁ q₂ q₃ r₀ r₁ r₂ e₀ e₁ e₂ = omega arith

-- the four bytes of a number make the number
bytes_make : (x : ℕ) → x < 2 ^ 32 → x / 16_777_216 % 256 * 16_777_216 + x / 65_536 % 256 * 65_536 + x / 256 % 256 * 256 + x % 256 ≡ x
bytes_make x small =
    let d₁ : x / 256 / 256 ≡ x / 65_536 = div-div-eq-div-mul x 256 256 in
    let d₂ : x / 65_536 / 256 ≡ x / 16_777_216 = div-div-eq-div-mul x 65_536 256 in
    let top : x / 16_777_216 % 256 ≡ x / 16_777_216 = mod-eq_of_lt ((div-lt_iff_lt-mul (omega arith)).1 (omega arith)) in
    rw top
    (put_together x (x / 256) (x / 65_536) (x / 16_777_216) (x % 256) (x / 256 % 256) (x / 65_536 % 256)
    (div-add-mod' x 256) (rw d₁ at (div-add-mod' (x / 256) 256)) (rw d₂ at (div-add-mod' (x / 65_536) 256)))

-- a number stands where its four bytes do
pub number_read : (bs : List ℕ) (a x : ℕ) → x < 2 ^ 32 → Stands bs a (bytes_of x) → number_at bs a ≡ x
unfolding number_at bytes_of
number_read bs a x small h =
    let e₀ : at bs a ≡ x / 16_777_216 % 256 = rw add-zero at (h.same 0 (omega arith)) in
    let e₁ : at bs (a + 1) ≡ x / 65_536 % 256 = h.same 1 (omega arith) in
    let e₂ : at bs (a + 2) ≡ x / 256 % 256 = h.same 2 (omega arith) in
    let e₃ : at bs (a + 3) ≡ x % 256 = h.same 3 (omega arith) in
    rw (e₀, e₁, e₂, e₃) (bytes_make x small)

-- one, three and four bytes that stand, one by one
pub stands_one : (bs : List ℕ) (a x : ℕ) → a + 1 ≤ length bs → at bs a ≡ x → Stands bs a (x ∷ [])
stands_one bs a x fit e = record { fits = fit; same = go }
  where
    go : (i : ℕ) → i < 1 → at bs (a + i) ≡ at (x ∷ []) i
    go zero l = rw add-zero e
    go (suc i) l = absurd (omega arith)

pub stands_three : (bs : List ℕ) (a x y z : ℕ) → a + 3 ≤ length bs → at bs a ≡ x → at bs (a + 1) ≡ y → at bs (a + 2) ≡ z → Stands bs a (x ∷ y ∷ z ∷ [])
stands_three bs a x y z fit e₀ e₁ e₂ = record { fits = fit; same = go }
  where
    go : (i : ℕ) → i < 3 → at bs (a + i) ≡ at (x ∷ y ∷ z ∷ []) i
    go zero l = rw add-zero e₀
    go (suc zero) l = e₁
    go (suc (suc zero)) l = e₂
    go (suc (suc (suc i))) l = absurd (omega arith)

pub stands_four : (bs : List ℕ) (a x y z u : ℕ) → a + 4 ≤ length bs → at bs a ≡ x → at bs (a + 1) ≡ y → at bs (a + 2) ≡ z → at bs (a + 3) ≡ u → Stands bs a (x ∷ y ∷ z ∷ u ∷ [])
stands_four bs a x y z u fit e₀ e₁ e₂ e₃ = record { fits = fit; same = go }
  where
    go : (i : ℕ) → i < 4 → at bs (a + i) ≡ at (x ∷ y ∷ z ∷ u ∷ []) i
    go zero l = rw add-zero e₀
    go (suc zero) l = e₁
    go (suc (suc zero)) l = e₂
    go (suc (suc (suc zero))) l = e₃
    go (suc (suc (suc (suc i)))) l = absurd (omega arith)

four_bytes : (b₀ b₁ b₂ b₃ x : ℕ) → b₀ < 256 → b₁ < 256 → b₂ < 256 → b₃ < 256 → x ≡ b₀ * 16_777_216 + b₁ * 65_536 + b₂ * 256 + b₃
    → (b₀ ≡ x / 16_777_216 % 256) × ((b₁ ≡ x / 65_536 % 256) × ((b₂ ≡ x / 256 % 256) × (b₃ ≡ x % 256)))
four_bytes b₀ b₁ b₂ b₃ x l₀ l₁ l₂ l₃ e = (omega arith, (omega arith, (omega arith, omega arith)))

-- the four bytes of the number that is read at a place stand there
pub number_stands : (bs : List ℕ) (a : ℕ) → AllBytes bs → a + 4 ≤ length bs → Stands bs a (bytes_of (number_at bs a))
unfolding number_at bytes_of
number_stands bs a bytes fit =
    let x = at bs a * 16_777_216 + at bs (a + 1) * 65_536 + at bs (a + 2) * 256 + at bs (a + 3) in
    let w = four_bytes (at bs a) (at bs (a + 1)) (at bs (a + 2)) (at bs (a + 3)) x
    (bytes a (omega arith)) (bytes (a + 1) (omega arith)) (bytes (a + 2) (omega arith)) (bytes (a + 3) (omega arith)) refl in
    stands_four bs a _ _ _ _ fit w.0 w.1.0 w.1.1.0 w.1.1.1
