-- The laws of bytes that are written one after another.
use Prim.Native.Nat.{ℕ, zero, suc, ◌+◌, ◌-◌, ◌≤◌}
use mathlib.Core.Path.{◌≡◌, refl, sym, ap, ◌∙◌}
use mathlib.Core.List.{List, [], ◌∷◌, ◌++◌, append-nil}
use native.Mathlib.Nat.{one-mul}
use native.Mathlib.Omega.{arith}
use lib.ListN.{length, take, drop, replicate, length-append, length-take, length-drop, length-replicate, drop_of_length-le}
use borrow.Author.Tests.{le-leb}
use lib.Seq.{paste, ext_get_or}
use Rattle.std.proofs.lemmas.List.{get_or-replicate}
use Rattle.units.specs.Places.{at}
use Rattle.units.proofs.JudgingLaws.{held}
use Rattle.fields.specs.Rows.{rows, laid}
use Rattle.fields.specs.Bytes.{bytes_of}
use Rattle.fields.proofs.RowLaws.{laid_first}
use Rattle.fields.proofs.SegmentLaws.{rows_length, laid_more}
use Rattle.fields.proofs.ByteLaws.{bytes_length}
use Rattle.sheets.specs.Layout.{end_bytes}
use Rattle.sheets.specs.Writing.{PutAt, room_number, laid_after}
use Rattle.versions.specs.Layout.{store_size, version_start, version_bytes, zero_bytes, filled_up, empty_store}

-- ---- bytes that are copied down

pub part_long : (bs : List ℕ) (by n : ℕ) → by + n ≤ length bs → length (take n (drop by bs)) ≡ n
part_long bs by n fits = simp (length-take, length-drop) (omega arith)

-- n bytes that are copied from the place `by` on to the start
pub moved_laid : (out : List ℕ) (by n k : ℕ) → by + n ≤ length out → k ≡ n → paste out 0 (drop by out) k ≡ laid out 0 (take n (drop by out))
unfolding laid
moved_laid out by n k fits e = rw (part_long out by n fits, e) refl

-- ---- zeros

pub zeros_long : (n : ℕ) → length (zero_bytes n) ≡ n
unfolding zero_bytes
zeros_long n = rows_length n 1 (λ i. 0 ∷ []) (λ i. refl) ∙ one-mul n

-- a zero behind any bytes reads as nothing there does
snoc_zero : (xs : List ℕ) (i : ℕ) → at (xs ++ (0 ∷ [])) i ≡ at xs i
snoc_zero [] zero = refl
snoc_zero [] (suc i) = refl
snoc_zero (x ∷ xs) zero = refl
snoc_zero (x ∷ xs) (suc i) = snoc_zero xs i

zero_rows : (n i : ℕ) → at (rows n (λ j. 0 ∷ [])) i ≡ 0
unfolding rows
zero_rows zero i = refl
zero_rows (suc n) i = snoc_zero (rows n (λ j. 0 ∷ [])) i ∙ zero_rows n i

pub zeros_are : (n i : ℕ) → at (zero_bytes n) i ≡ 0
unfolding zero_bytes
zeros_are n i = zero_rows n i

pub zeros_list : (n : ℕ) → replicate n 0 ≡ zero_bytes n
zeros_list n =
    ext_get_or 0 _ _ (length-replicate n 0 ∙ sym (zeros_long n))
    (λ i l. get_or-replicate n i 0 0 (rw length-replicate at l) ∙ sym (zeros_are n i))

-- ---- what was put at a place

-- where it fits it was laid
pub put_laid : (a : ℕ) (bytes : List ℕ) (more number : ℕ) {before after : List ℕ} → PutAt a bytes more before after number → a + length bytes + more ≤ length before → after ≡ laid before a bytes
unfolding laid_after
put_laid a bytes more number {before} {after} p fits =
    let e : room_number (a + length bytes + more) (length before) ≡ 0 = held _ _ _ (le-leb _ _ fits) in
    rw e at p.buffer

-- what is as long as the buffer takes its place
pub laid_whole : (out s : List ℕ) → length s ≡ length out → laid out 0 s ≡ s
laid_whole out s e =
    let l : length out ≤ length s = omega arith in
    laid_first out s ∙ ap (λ (rest : List ℕ). s ++ rest) (drop_of_length-le out l) ∙ append-nil s

-- the end and zeros behind it make the empty store
pub empty_laid : (out out₁ out₂ : List ℕ) → length out ≡ store_size → out₁ ≡ laid out 0 end_bytes → out₂ ≡ laid out₁ 3 (zero_bytes (store_size - 3)) → out₂ ≡ empty_store
unfolding filled_up
empty_laid out out₁ out₂ l e d =
    let zeros = zeros_long (store_size - 3) in
    laid_more out out₁ out₂ 0 3 end_bytes (zero_bytes (store_size - 3)) e refl d (omega arith)
    ∙ laid_whole out (end_bytes ++ zero_bytes (store_size - 3)) (omega (arith, length-append end_bytes (zero_bytes (store_size - 3))))

-- the parts of a version laid one behind the other, and the end
pub record PartsLaid (number : ℕ) (sheet : List ℕ) (a : ℕ) (o o₁ o₂ o₃ o₄ : List ℕ) : Type 0 where
  pub start : o₁ ≡ laid o a (version_start (length sheet))
  pub numbered : o₂ ≡ laid o₁ (a + 3) (bytes_of number)
  pub plan : o₃ ≡ laid o₂ (a + 7) sheet
  pub end : o₄ ≡ laid o₃ (a + 7 + length sheet) end_bytes

pub version_laid : (number : ℕ) (sheet : List ℕ) (a : ℕ) (o o₁ o₂ o₃ o₄ : List ℕ) → PartsLaid number sheet a o o₁ o₂ o₃ o₄ → a + 10 + length sheet ≤ length o → o₄ ≡ laid o a (version_bytes number sheet ++ end_bytes)
unfolding version_bytes
version_laid number sheet a o o₁ o₂ o₃ o₄ p fits =
    let n = length sheet in
    let s = version_start (length sheet) in
    let long = bytes_length number in
    let j₂ = length-append s (bytes_of number) in
    let j₃ = length-append (s ++ bytes_of number) sheet in
    let e₂ = laid_more o o₁ o₂ a (a + 3) s (bytes_of number) p.start refl p.numbered (omega arith) in
    let e₃ = laid_more o o₂ o₃ a (a + 7) (s ++ bytes_of number) sheet e₂ (omega arith) p.plan (omega arith) in
    laid_more o o₃ o₄ a (a + 7 + n) (s ++ bytes_of number ++ sheet) end_bytes e₃ (omega arith) p.end (omega arith)
