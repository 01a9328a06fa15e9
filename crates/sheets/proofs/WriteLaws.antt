-- What was written lies inside the buffer: for the layers above.
use Prim.Native.Nat.{ℕ, zero, suc, ◌≤◌}
use mathlib.Core.Path.{◌≡◌, refl}
use mathlib.Core.Bool.{Bool}
use mathlib.Core.List.{List}
use native.Mathlib.Omega.{arith}
use lib.ListN.{length}
use borrow.Author.Tests.{leb-true}
use Rattle.units.proofs.JudgingLaws.{passed}
use Rattle.sets.specs.declared.Set.{Set}
use Rattle.plans.specs.declared.Alloc.{Alloc}
use Rattle.sheets.specs.Layout.{sheet_length}
use Rattle.sheets.proofs.ReadLaws.{then_none}
use Rattle.sheets.specs.Writing.{write_answer, written_answer}

answer_fits : (k size room : ℕ) → (k ≡ 0 → size ≤ room) → (write_answer k size).length ≤ room
unfolding write_answer
answer_fits zero size room h = h refl
answer_fits (suc k) size room h = omega arith

-- a sheet that was written lies inside the buffer
pub written_fits : (plan : Bool) (t : Set) (a : Alloc) (out : List ℕ) → (written_answer plan t a out).length ≤ length out
written_fits plan t a out =
    answer_fits _ (sheet_length plan t) (length out)
    (λ e. leb-true _ _ (passed _ 14 0 (λ x. absurd (omega arith)) (then_none _ _ e).1).0)
