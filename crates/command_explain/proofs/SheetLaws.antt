-- What the code on bytes asks for: the start of a field that is tried, the length in two bytes, and small numbers.
use Prim.Native.Nat.{ℕ, zero, suc, ◌+◌, ◌*◌, ◌≤◌}
use mathlib.Core.Path.{◌≡◌, refl, ap, ◌∙◌}
use mathlib.Core.Bool.{Bool, true, false, cond, not}
use mathlib.Core.List.{List, [], ◌∷◌}
use native.Mathlib.Omega.{arith}
use lib.Dec.{leb, eqb}
use Rattle.units.specs.Numbers.{cut_short, wrong_shape, accepted, runs_on}
use Rattle.units.specs.Judging.{or_else}
use Rattle.units.specs.Places.{at}
use Rattle.fields.specs.Bytes.{short_at}
use Rattle.fields.specs.Fields.{size_at, is_allowed, field_number, handed_out, field_at}
use Rattle.fields.specs.declared.Passed.{Passed}
use Rattle.command_explain.specs.Sheet.{skipped_by}

-- the length in two bytes
pub short_is : (bs : List ℕ) (a : ℕ) → at bs (a + 1) * 256 + at bs (a + 2) ≡ size_at bs a
unfolding short_at
short_is bs a = let e : a + 2 ≡ a + 1 + 1 = omega arith in ap (λ (k : ℕ). at bs (a + 1) * 256 + at bs k) e

either_below : (b : Bool) (x y most : ℕ) → x ≤ most → y ≤ most → cond b x y ≤ most
either_below true x y most h k = h
either_below false x y most h k = k

pub skipped_small : (number : ℕ) → skipped_by number ≤ 3
unfolding skipped_by
skipped_small number = either_below (eqb number runs_on) 3 0 3 (omega arith) (omega arith)

-- 2 is answered exactly if the field may not stand there, whether its body is cut or not
by_tests : (allowed cut : Bool) → not (eqb (or_else allowed wrong_shape (or_else cut cut_short accepted)) wrong_shape) ≡ allowed
unfolding or_else
by_tests true true = refl
by_tests true false = refl
by_tests false cut = refl

number_kept : (k tag body next : ℕ) → (handed_out k tag body next).number ≡ k
unfolding handed_out
number_kept zero tag body next = refl
number_kept (suc k) tag body next = refl

pub tried : (p : Passed) (tag size : ℕ) → not (eqb (field_at (tag ∷ 0 ∷ size ∷ []) 0 p).number wrong_shape) ≡ is_allowed p tag size
unfolding field_number short_at or_else
tried p tag size =
    let bs = tag ∷ 0 ∷ size ∷ [] in
    let same : 0 * 256 + size ≡ size = omega arith in
    rw (number_kept (field_number bs 0 p) tag 3 _) (by_tests (is_allowed p tag (0 * 256 + size)) (leb (0 * 256 + size) 0) ∙ ap (is_allowed p tag) same)
