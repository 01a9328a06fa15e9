-- What the bytes of a record tell, whatever its kind: its first three bytes say how many its field has, and its entry is read from no others.
use Rattle.std.proofs.lemmas.Bool.{or_cases}
use Prim.Native.Nat.{ℕ, ◌+◌, ◌≤◌, ◌<◌}
use mathlib.Core.Path.{◌≡◌, refl, sym, ap, ◌∙◌}
use mathlib.Core.Bool.{true, false, cond}
use mathlib.Core.List.{List}
use mathlib.Core.Logic.{◌≢◌, ⊎_elim}
use native.Mathlib.Omega.{arith}
use native.Mathlib.Nat.{add_assoc}
use borrow.Author.Tests.{eqb-true}
use lib.Dec.{eqb}
use lib.ListN.{length}
use Rattle.units.proofs.JudgingLaws.{true_or_false}
use Rattle.units.specs.Places.{at}
use Rattle.fields.specs.Bytes.{number_at}
use Rattle.fields.specs.Fields.{size_at, behind}
use Rattle.log_records.specs.Visit.{is_visit, visit_at}
use Rattle.log_records.specs.Mark.{is_mark, mark_at}
use Rattle.log_records.specs.Entry.{blank_entry, next_entry}
use Rattle.log_records.specs.declared.Entry.{Entry}
use Rattle.log_records.specs.declared.Entry.TheVariants.{Visit, Mark}
use Rattle.log_records.proofs.EntryLaws.{Standing, a_visit_lem, a_mark_lem, nothing, standing, handed_visit, handed_mark, handed_none}
use Rattle.logs.specs.Records.{is_record, record_size}
use Rattle.logs.proofs.RecordLaws.{visit_says, mark_says, visit_size_lem, mark_size_lem, no_size, record_there, whole_record}

-- ---- its length

module _ (bs : List ℕ) (a : ℕ) where
  -- more than the first three bytes, and at most 20
  pub long_some : is_record bs a ≡ true → (1 ≤ size_at bs a) × (size_at bs a ≤ 17)
  long_some h =
      ⊎_elim (λ (v : is_visit bs a ≡ true). (omega (arith, (visit_says bs a v).1), omega (arith, (visit_says bs a v).1)))
      (λ (m : is_mark bs a ≡ true). (omega (arith, (mark_says bs a m).1), omega (arith, (mark_says bs a m).1)))
      (or_cases _ _ h)

  -- a whole one has the bytes that it says
  pub size_said : is_record bs a ≡ true → behind bs a ≤ length bs → record_size bs a ≡ 3 + size_at bs a
  size_said h inside = omega (arith, (record_there bs a (whole_record bs a h inside)).next)

  pub size_some : record_size bs a ≢ 0 → 3 < record_size bs a
  size_some some =
      let there = record_there bs a some in
      omega (arith, there.next, (long_some there.here).0)

-- ---- its entry

-- by how many bytes it has
unfoldable sized_at : ℕ → List ℕ → ℕ → Entry
sized_at n bs a = cond (eqb n 20) (Visit (visit_at bs a)) (cond (eqb n 5) (Mark (mark_at bs a)) blank_entry)

by_size : (bs : List ℕ) (a : ℕ) → (next_entry bs a).entry ≡ sized_at (record_size bs a) bs a
unfolding sized_at
by_size bs a = go (standing bs a)
  where
    go : Standing bs a → (next_entry bs a).entry ≡ sized_at (record_size bs a) bs a
    go (a_visit_lem h) = rw (handed_visit bs a h, visit_size_lem bs a h) refl
    go (a_mark_lem h) = rw (handed_mark bs a h, mark_size_lem bs a h) refl
    go (nothing v m) = rw (handed_none bs a v m, no_size bs a v m) refl

-- the same n bytes stand at two places
module _ (bs cs : List ℕ) (a b n : ℕ) (same : (i : ℕ) → i < n → at bs (a + i) ≡ at cs (b + i)) where
  number_same : (i : ℕ) → i + 4 ≤ n → number_at bs (a + i) ≡ number_at cs (b + i)
  unfolding number_at
  number_same i l =
      rw (
        add_assoc a i 1,
        add_assoc a i 2,
        add_assoc a i 3,
        add_assoc b i 1,
        add_assoc b i 2,
        add_assoc b i 3,
        same i (omega arith),
        same (i + 1) (omega arith),
        same (i + 2) (omega arith),
        same (i + 3) (omega arith),
      )
      refl

  visit_same : 20 ≤ n → visit_at bs a ≡ visit_at cs b
  visit_same l =
      rw (same 3 (omega arith), number_same 4 (omega arith), number_same 8 (omega arith), number_same 12 (omega arith), number_same 16 (omega arith)) refl

  sized_same : sized_at n bs a ≡ sized_at n cs b
  unfolding sized_at
  sized_same =
      ⊎_elim (λ (v : eqb n 20 ≡ true).
      let long : n ≡ 20 = eqb-true n 20 v in
      rw v (ap Visit (visit_same (omega arith))))
      (λ (v : eqb n 20 ≡ false).
      ⊎_elim (λ (m : eqb n 5 ≡ true).
      let long : n ≡ 5 = eqb-true n 5 m in
      rw (v, m, same 3 (omega arith), same 4 (omega arith)) refl)
      (λ (m : eqb n 5 ≡ false). rw (v, m) refl)
      (true_or_false (eqb n 5)))
      (true_or_false (eqb n 20))

-- records of one length with the same bytes are the same entry
pub entry_same : (bs cs : List ℕ) (a b : ℕ) → record_size bs a ≡ record_size cs b → ((i : ℕ) → i < record_size bs a → at bs (a + i) ≡ at cs (b + i)) → (next_entry bs a).entry ≡ (next_entry cs b).entry
entry_same bs cs a b size same =
    by_size bs a ∙ sized_same bs cs a b (record_size bs a) same ∙ ap (λ (n : ℕ). sized_at n cs b) size ∙ sym (by_size cs b)
