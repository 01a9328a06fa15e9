-- The place of the first fault: the walk stops there, and behind an end field three bytes further on.
use Prim.Native.Nat.{ℕ, ◌+◌}
use mathlib.Core.Path.{◌≡◌, refl}
use mathlib.Core.Bool.{Bool, true, false, cond}
use mathlib.Core.List.{List}
use native.Mathlib.Omega.{arith}
use lib.Dec.{leb}
use borrow.Author.Tests.{lt-leb, le-leb}
use Rattle.fields.specs.Fields.{left}
use Rattle.fields.specs.declared.Passed.{Passed}
use Rattle.field_reader.specs.FirstFault.{Fault, no_start, not_allowed, cut_body, follows, FirstFault}
use Rattle.field_reader.proofs.ScannedLaws.{fault_there}
use Rattle.command_explain.specs.declared.Place.{Place}
use Rattle.command_explain.specs.Sheet.{skipped_by, place_at, place_in}

by_fault : (bs : List ℕ) (a : ℕ) (p : Passed) (k : ℕ) → Fault bs a p k → (place_at bs a (skipped_by k) p).byte ≡ a + skipped_by k
unfolding place_at skipped_by
by_fault bs a p _ (no_start few) = rw (lt-leb 3 (left bs a) few) (omega arith)
by_fault bs a p _ (not_allowed there other) = rw (le-leb 3 (left bs a) there) refl
by_fault bs a p _ (cut_body there may cut) = rw (le-leb 3 (left bs a) there) refl
by_fault bs a p _ (follows w last more) = rw (le-leb 3 (left bs a) (omega (arith, w.inside))) refl

either_passed : (b : Bool) (x y : Place) (p : Passed) → x.passed ≡ p → y.passed ≡ p → (cond b x y).passed ≡ p
either_passed true x y p e f = e
either_passed false x y p e f = f

pub place : (plan : Bool) (bs : List ℕ) (k : ℕ) (f : FirstFault plan bs k) → (place_in plan bs).byte ≡ f.place + skipped_by k
place plan bs k f = rw (fault_there plan bs k f) (by_fault bs f.place f.passed k f.fault)

pub passed : (plan : Bool) (bs : List ℕ) (k : ℕ) (f : FirstFault plan bs k) → (place_in plan bs).passed ≡ f.passed
unfolding place_at
passed plan bs k f = rw (fault_there plan bs k f) (either_passed (leb 3 (left bs f.place)) _ _ f.passed refl refl)
