-- The laws of rows and of segments laid into a buffer, for this layer and those above.
use Prim.Native.Nat.{ℕ, ◌+◌, ◌≤◌}
use mathlib.Core.Path.{◌≡◌, refl, ◌∙◌}
use mathlib.Core.List.{List, [], ◌++◌, append_assoc, append-nil}
use native.Mathlib.Numerals.{add-one}
use native.Mathlib.Nat.{zero-add, add-zero}
use native.Mathlib.Omega.{arith}
use lib.ListN.{length, take, drop, length-append, length-take, length-drop, take-append-drop}
use lib.Seq.{take_at, drop-append-add, drop-drop}
use Rattle.fields.specs.Rows.{rows, laid}

-- ---- rows

pub rows_none : (f : ℕ → List ℕ) → rows 0 f ≡ []
unfolding rows
rows_none f = refl

pub rows_step : (n : ℕ) (f : ℕ → List ℕ) → rows (n + 1) f ≡ rows n f ++ f n
unfolding rows
rows_step n f = rw add-one

-- ---- segments laid into a buffer

pub laid_none : (out : List ℕ) (a : ℕ) → laid out a [] ≡ out
unfolding laid
laid_none out a = rw (append-nil, add-zero) (take-append-drop a out)

pub laid_length : (out : List ℕ) (a : ℕ) (s : List ℕ) → a + length s ≤ length out → length (laid out a s) ≡ length out
unfolding laid
laid_length out a s h =
    omega
    (arith, length-append (take a out ++ s) (drop (a + length s) out), length-append (take a out) s, length-take a out, length-drop (a + length s) out)

-- two segments after each other are one
pub laid_then : (out : List ℕ) (a : ℕ) (s t : List ℕ) → a + length s + length t ≤ length out → laid (laid out a s) (a + length s) t ≡ laid out a (s ++ t)
unfolding laid
laid_then out a s t h =
    let front = take a out ++ s in
    let rest = drop (a + length s) out in
    let long : length (take a out ++ s) ≡ a + length s = omega (arith, length-append (take a out) s, length-take a out) in
    let e₁ : take (a + length s) (front ++ rest) ≡ front = take_at front rest (a + length s) long in
    let k : a + length s + length t ≡ length (take a out ++ s) + length t = omega arith in
    let e₂ : drop (a + length s + length t) (front ++ rest) ≡ drop (a + length s + length t) out =
    rw k (drop-append-add front rest (length t) ∙ rw (← k) (drop-drop (length t) (a + length s) out)) in
    let m : a + length (s ++ t) ≡ a + length s + length t = omega (arith, length-append s t) in
    rw (e₁, e₂, m, append_assoc (take a out) s t)

-- a segment laid from the start on
pub laid_first : (out s : List ℕ) → laid out 0 s ≡ s ++ drop (length s) out
unfolding laid
laid_first out s = rw zero-add
