-- The laws of an entry, by its kind: how long its field is, and which entry is handed out.
use Prim.Native.Nat.{ℕ, ◌+◌}
use mathlib.Core.Path.{◌≡◌, refl}
use mathlib.Core.Bool.{true, false}
use mathlib.Core.List.{List}
use mathlib.Core.Logic.{⊎_elim}
use native.Mathlib.Omega.{arith}
use lib.ListN.{length}
use Rattle.units.proofs.JudgingLaws.{true_or_false}
use Rattle.log_records.specs.Visit.{visit_at, visit_stands}
use Rattle.log_records.specs.Mark.{mark_at, mark_stands}
use Rattle.log_records.specs.Entry.{entry_bytes, entry_length, blank_entry, next_entry}
use Rattle.log_records.specs.declared.Entry.{Entry}
use Rattle.log_records.specs.declared.Entry.TheVariants.{Visit, Mark}
use Rattle.log_records.proofs.VisitLaws.{visit_length_lem, visit_there}
use Rattle.log_records.proofs.MarkLaws.{mark_length_lem, mark_there}

pub entry_length_lem : (e : Entry) → length (entry_bytes e) ≡ entry_length e
entry_length_lem (Visit v) = visit_length_lem v
entry_length_lem (Mark m) = mark_length_lem m

-- ---- what stands at a place

-- no mark is a visit
pub mark_no_visit : (bs : List ℕ) (a : ℕ) → mark_stands bs a ≡ true → visit_stands bs a ≡ false
mark_no_visit bs a h =
    ⊎_elim (λ (v : visit_stands bs a ≡ true). absurd (omega (arith, (visit_there bs a v).has_tag, (mark_there bs a h).has_tag)))
    (λ (v : visit_stands bs a ≡ false). v)
    (true_or_false (visit_stands bs a))

-- a visit, a mark or no entry
pub data Standing (bs : List ℕ) (a : ℕ) : Type 0 where
  a_visit_lem : visit_stands bs a ≡ true → Standing bs a
  a_mark_lem : mark_stands bs a ≡ true → Standing bs a
  nothing : visit_stands bs a ≡ false → mark_stands bs a ≡ false → Standing bs a

pub standing : (bs : List ℕ) (a : ℕ) → Standing bs a
standing bs a =
    ⊎_elim a_visit_lem
    (λ (v : visit_stands bs a ≡ false). ⊎_elim a_mark_lem (nothing v) (true_or_false (mark_stands bs a)))
    (true_or_false (visit_stands bs a))

-- ---- what is handed out

module _ (bs : List ℕ) (a : ℕ) where
  pub handed_visit : visit_stands bs a ≡ true → next_entry bs a ≡ record { entry = Visit (visit_at bs a); next = a + 20 }
  unfolding next_entry
  handed_visit h = rw h refl

  pub handed_mark : mark_stands bs a ≡ true → next_entry bs a ≡ record { entry = Mark (mark_at bs a); next = a + 5 }
  unfolding next_entry
  handed_mark h = rw (mark_no_visit bs a h, h) refl

  pub handed_none : visit_stands bs a ≡ false → mark_stands bs a ≡ false → next_entry bs a ≡ record { entry = blank_entry; next = 0 }
  unfolding next_entry
  handed_none v m = rw (v, m) refl
