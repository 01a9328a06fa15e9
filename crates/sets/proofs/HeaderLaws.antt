-- The laws of the header's numbers: a number that was put in is there, and a header is made by putting in one number after another.
use Prim.Native.Nat.{ℕ, zero, suc, ◌+◌, ◌<◌}
use mathlib.Core.Path.{◌≡◌, refl}
use mathlib.Core.Bool.{true, false}
use mathlib.Core.Logic.{⊎_elim}
use native.Mathlib.Numerals.{add-one}
use native.Mathlib.Omega.{arith}
use lib.Dec.{eqb}
use Rattle.units.proofs.JudgingLaws.{true_or_false}
use Rattle.fields.specs.Fields.{mode_tag, frame_tag}
use Rattle.fields.specs.Header.{further_count, absent}
use Rattle.sets.specs.Header.{head_of, head_number, with_head_number}
use Rattle.sets.specs.declared.Head.{Head}

-- the number that was put into a header is there
pub with_number : (h : Head) (tag number : ℕ) → head_number (with_head_number h tag number) tag ≡ number
unfolding head_number with_head_number
with_number h tag number =
    ⊎_elim (λ (e : eqb tag mode_tag ≡ true). rw e refl)
    (λ (e : eqb tag mode_tag ≡ false).
    ⊎_elim (λ (f : eqb tag frame_tag ≡ true). rw (e, f) refl) (λ (f : eqb tag frame_tag ≡ false). rw (e, f) refl) (true_or_false (eqb tag frame_tag)))
    (true_or_false (eqb tag mode_tag))

-- the header with the first k of its numbers behind TTRT
unfoldable pub head_so_far : Head → ℕ → Head
head_so_far h zero = head_of h.ttrt
head_so_far h (suc k) = with_head_number (head_so_far h k) (mode_tag + k) (head_number h (mode_tag + k))

-- one number more
pub so_far_more : (h : Head) (k : ℕ) → head_so_far h (k + 1) ≡ with_head_number (head_so_far h k) (mode_tag + k) (head_number h (mode_tag + k))
unfolding head_so_far
so_far_more h k = rw add-one refl

-- a number that is absent changes nothing of it
pub so_far_absent : (h : Head) (k : ℕ) → k < further_count → head_number h (mode_tag + k) ≡ absent → head_so_far h (suc k) ≡ head_so_far h k
unfolding head_so_far with_head_number head_number
so_far_absent h zero l e = rw e refl
so_far_absent h (suc zero) l e = rw e refl
so_far_absent h (suc (suc zero)) l e = rw e refl
so_far_absent h (suc (suc (suc k))) l e = absurd (omega arith)

-- and with all of them it is the header
pub so_far_all : (h : Head) → head_so_far h further_count ≡ h
unfolding head_so_far with_head_number head_number
so_far_all h = refl
