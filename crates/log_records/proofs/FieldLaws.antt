-- A field of a log's record, whatever its kind: with this tag and this length, and whole.
use Prim.Native.Nat.{ℕ, ◌+◌, ◌≤◌}
use mathlib.Core.Path.{◌≡◌}
use mathlib.Core.Bool.{true, ◌&&◌}
use mathlib.Core.List.{List}
use lib.Dec.{leb, eqb}
use lib.ListN.{length}
use borrow.Author.Tests.{eqb-true, eq-eqb, leb-true, le-leb}
use Rattle.units.proofs.JudgingLaws.{and-true, true_and}
use Rattle.fields.specs.Fields.{tag_at, size_at}

-- it stands at the place a
pub record FieldThere (bs : List ℕ) (a tag size whole : ℕ) : Type 0 where
  pub inside : a + whole ≤ length bs
  pub has_tag : tag_at bs a ≡ tag
  pub has_size : size_at bs a ≡ size

module _ (bs : List ℕ) (a tag size : ℕ) where
  -- what the test of its start says
  pub field_says : (eqb (tag_at bs a) tag && eqb (size_at bs a) size) ≡ true → (tag_at bs a ≡ tag) × (size_at bs a ≡ size)
  field_says h = let w = and-true _ _ h in (eqb-true _ _ w.0, eqb-true _ _ w.1)

  pub field_there : (whole : ℕ) → (leb (a + whole) (length bs) && (eqb (tag_at bs a) tag && eqb (size_at bs a) size)) ≡ true → FieldThere bs a tag size whole
  field_there whole h =
      let w = and-true _ _ h in
      let says = field_says w.1 in
      record { inside = leb-true _ _ w.0; has_tag = says.0; has_size = says.1 }

  pub field_begins : (whole : ℕ) → FieldThere bs a tag size whole → (eqb (tag_at bs a) tag && eqb (size_at bs a) size) ≡ true
  field_begins whole f = true_and _ _ (eq-eqb _ _ f.has_tag) (eq-eqb _ _ f.has_size)

  pub there_field : (whole : ℕ) → FieldThere bs a tag size whole → (leb (a + whole) (length bs) && (eqb (tag_at bs a) tag && eqb (size_at bs a) size)) ≡ true
  there_field whole f = true_and _ _ (le-leb _ _ f.inside) (field_begins whole f)
