-- The field of a version: what stands where its bytes do, and which bytes stand where it is read.
use Prim.Native.Nat.{ℕ, zero, suc, ◌+◌, ◌-◌, ◌*◌, ◌/◌, ◌%◌, ◌^◌, ◌≤◌, ◌<◌}
use mathlib.Core.Path.{◌≡◌, sym, ap, ◌∙◌}
use mathlib.Core.Bool.{true}
use mathlib.Core.List.{List, ◌++◌}
use mathlib.Core.Logic.{⊎_elim}
use native.Mathlib.Nat.{add-zero, zero-add}
use native.Mathlib.Omega.{arith}
use borrow.Author.Tests.{le-leb, eq-eqb}
use lib.ListN.{length, take, drop, length-append, length-take, length-drop}
use lib.Seq.{get_or-take, get_or-drop, ext_get_or}
use Rattle.units.specs.Places.{at}
use Rattle.units.proofs.JudgingLaws.{true_and}
use Rattle.units.proofs.SmallLaws.{below_or_not}
use Rattle.fields.specs.Rows.{rows}
use Rattle.fields.specs.Bytes.{short_at, number_at, bytes_of, AllBytes}
use Rattle.fields.specs.Fields.{left, tag_at, size_at}
use Rattle.fields.proofs.SegmentLaws.{Stands, stands_left, stands_right, stands_join}
use Rattle.fields.proofs.ByteLaws.{bytes_length, number_read, number_stands, stands_three}
use Rattle.versions.specs.Layout.{version_tag, version_start, version_bytes}
use Rattle.versions.specs.Area.{version_fits, sheet_at, is_plan, version_stands}
use Rattle.versions.proofs.AreaLaws.{VersionHere, sheet_length_lem}

-- ---- rows of any lengths

-- row k of n rows stands behind those before it
pub row_stands : (bs : List ℕ) (n : ℕ) (f : ℕ → List ℕ) → Stands bs 0 (rows n f) → (k : ℕ) → k < n → Stands bs (length (rows k f)) (f k)
unfolding rows
row_stands bs zero f h k l = absurd (omega arith)
row_stands bs (suc n) f h k l =
    ⊎_elim (λ (b : k < n). row_stands bs n f (stands_left bs 0 (rows n f) (f n) h) k b)
    (λ (b : n ≤ k).
    let e : k ≡ n = omega arith in
    rw e (rw zero-add at (stands_right bs 0 (rows n f) (f n) h)))
    (below_or_not k n)

-- ---- a part of the bytes

-- the bytes of a segment that stands at a place are that part
pub part_is : (bs : List ℕ) (a : ℕ) (s : List ℕ) → Stands bs a s → take (length s) (drop a bs) ≡ s
part_is bs a s h =
    let fits = h.fits in
    let long : length (take (length s) (drop a bs)) ≡ length s = simp (length-take, length-drop) (omega arith) in
    ext_get_or 0 (take (length s) (drop a bs)) s long
    (λ i l. let b : i < length s = omega arith in get_or-take (length s) (drop a bs) i 0 b ∙ get_or-drop a bs i 0 ∙ h.same i b)

-- and a part stands where it was taken
pub part_stands : (bs : List ℕ) (a n : ℕ) → a + n ≤ length bs → Stands bs a (take n (drop a bs))
part_stands bs a n fits =
    let long : length (take n (drop a bs)) ≡ n = simp (length-take, length-drop) (omega arith) in
    record { fits = omega arith; same = λ i l. let b : i < n = omega arith in sym (get_or-take n (drop a bs) i 0 b ∙ get_or-drop a bs i 0) }

-- ---- a version's field

pub version_length : (number : ℕ) (sheet : List ℕ) → length (version_bytes number sheet) ≡ 7 + length sheet
unfolding version_bytes
version_length number sheet =
    omega (arith, length-append (version_start (length sheet) ++ bytes_of number) sheet, length-append (version_start (length sheet)) (bytes_of number), bytes_length number)

-- what is read where the field stands
pub record FieldReads (bs : List ℕ) (a number : ℕ) (sheet : List ℕ) : Type 0 where
  pub tag : tag_at bs a ≡ version_tag
  pub size : size_at bs a ≡ 4 + length sheet
  pub numbered : number_at bs (a + 3) ≡ number
  pub plan : sheet_at bs a ≡ sheet
  pub inside : a + 7 + length sheet ≤ length bs

pub field_reads : (bs : List ℕ) (a number : ℕ) (sheet : List ℕ) → number < 2 ^ 32 → length sheet ≤ 65_531 → Stands bs a (version_bytes number sheet) → FieldReads bs a number sheet
unfolding version_bytes short_at
field_reads bs a number sheet small short h =
    let n = length sheet in
    let s = version_start (length sheet) in
    let first = stands_left bs a (s ++ bytes_of number) sheet h in
    let start = stands_left bs a s (bytes_of number) first in
    let four : Stands bs (a + 3) (bytes_of number) = stands_right bs a s (bytes_of number) first in
    let j = length-append s (bytes_of number) in
    let long = bytes_length number in
    let place : a + length (version_start (length sheet) ++ bytes_of number) ≡ a + 7 = omega arith in
    let rest : Stands bs (a + 7) sheet = rw place at (stands_right bs a (s ++ bytes_of number) sheet h) in
    let t : at bs a ≡ 32 = rw add-zero at (start.same 0 (omega arith)) in
    let b₁ : at bs (a + 1) ≡ (length sheet + 4) / 256 % 256 = start.same 1 (omega arith) in
    let b₂ : at bs (a + 2) ≡ (length sheet + 4) % 256 = start.same 2 (omega arith) in
    let next : a + 1 + 1 ≡ a + 2 = omega arith in
    let size : at bs (a + 1) * 256 + at bs (a + 1 + 1) ≡ 4 + length sheet = rw next (omega arith) in
    let same : 4 + length sheet - 4 ≡ length sheet = omega arith in
    record {
      tag = t;
      size = size;
      numbered = number_read bs (a + 3) number small four;
      plan = ap (λ (k : ℕ). take (k - 4) (drop (a + 7) bs)) size ∙ ap (λ (k : ℕ). take k (drop (a + 7) bs)) same ∙ part_is bs (a + 7) sheet rest;
      inside = omega (arith, rest.fits);
    }

-- so the version stands there
pub stands_there : (bs : List ℕ) (a number : ℕ) (sheet : List ℕ) → FieldReads bs a number sheet → is_plan sheet ≡ true → version_stands bs a number ≡ true
unfolding version_stands version_fits
stands_there bs a number sheet r plan =
    let inside = r.inside in
    let size = r.size in
    let l₀ : 7 ≤ left bs a = omega arith in
    let l₁ : 4 ≤ size_at bs a = omega arith in
    let l₂ : size_at bs a + 3 ≤ left bs a = omega arith in
    true_and _ _ (true_and _ _ (le-leb 7 (left bs a) l₀) (true_and _ _ (true_and _ _ (eq-eqb _ _ r.tag) (le-leb 4 (size_at bs a) l₁)) (le-leb (size_at bs a + 3) (left bs a) l₂)))
    (true_and _ _ (eq-eqb _ _ r.numbered) (ap is_plan r.plan ∙ plan))

-- the bytes of a version's field stand where one stands
pub version_bytes_lem : (bs : List ℕ) (a number : ℕ) → AllBytes bs → VersionHere bs a number → Stands bs a (version_bytes number (sheet_at bs a))
unfolding version_bytes short_at
version_bytes_lem bs a number bytes h =
    let sheet = sheet_at bs a in
    let field = h.field in
    let start = field.start in
    let inside = field.inside in
    let some = field.some in
    let long : length (sheet_at bs a) ≡ size_at bs a - 4 = sheet_length_lem bs a field in
    let l₁ = bytes (a + 1) (omega arith) in
    let l₂ = bytes (a + 2) (omega arith) in
    let next : a + 1 + 1 ≡ a + 2 = omega arith in
    let size : length (sheet_at bs a) + 4 ≡ at bs (a + 1) * 256 + at bs (a + 2) = omega (arith, ap (at bs) next) in
    let b₁ : at bs (a + 1) ≡ (length (sheet_at bs a) + 4) / 256 % 256 = omega arith in
    let b₂ : at bs (a + 2) ≡ (length (sheet_at bs a) + 4) % 256 = omega arith in
    let s = version_start (length (sheet_at bs a)) in
    let first : Stands bs a (version_start (length (sheet_at bs a))) = stands_three bs a _ _ _ (omega arith) field.tag b₁ b₂ in
    let four : Stands bs (a + 3) (bytes_of number) = rw h.numbered at (number_stands bs (a + 3) bytes (omega arith)) in
    let both = stands_join bs a s (bytes_of number) first four in
    let j = length-append s (bytes_of number) in
    let eight = bytes_length number in
    let place : a + length (version_start (length (sheet_at bs a)) ++ bytes_of number) ≡ a + 7 = omega arith in
    let rest : Stands bs (a + 7) (sheet_at bs a) = part_stands bs (a + 7) (size_at bs a - 4) (omega arith) in
    stands_join bs a (s ++ bytes_of number) sheet both (rw place rest)
