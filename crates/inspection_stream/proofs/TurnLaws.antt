-- One byte more of a log that is being inspected: what is left of the inspection is the same.
use Prim.Native.Nat.{ℕ, ◌+◌, ◌≤◌, ◌<◌}
use mathlib.Core.Path.{◌≡◌, refl, sym, ap, ◌∙◌}
use mathlib.Core.List.{List, ◌∷◌, ◌++◌}
use mathlib.Core.Bool.{true, false}
use mathlib.Core.Logic.{◌≢◌, ⊎_elim}
use native.Mathlib.Numerals.{add-one}
use borrow.Author.Tests.{eq-eqb, ne_eqb}
use lib.ListN.{length, drop, drop_of_length-le}
use lib.Seq.{drop-cons}
use lib.Dec.{eqb}
use Rattle.units.specs.Places.{at}
use Rattle.units.proofs.JudgingLaws.{true_or_false}
use Rattle.sets.specs.declared.Set.{Set}
use Rattle.plans.specs.declared.Alloc.{Alloc}
use Rattle.log_records.specs.Entry.{next_entry}
use Rattle.log_records.specs.declared.NextEntry.{NextEntry}
use Rattle.logs.specs.Records.{record_size}
use Rattle.log_stream.specs.Pieces.{stepped, entry_in, entries_of, read_over, handed_over}
use Rattle.log_stream.specs.declared.Gathered.{Gathered}
use Rattle.inspection_stream.specs.Inspecting.{looked_at, looked_all}
use Rattle.inspection_stream.specs.declared.Looked.{Looked}
use Rattle.inspection_stream.proofs.LookLaws.{look_append}

-- a record that was read stands in the bytes of its field
pub read_stands : (v : Gathered) → (entry_in v).next ≢ 0 → entry_in v ≡ next_entry v.bytes 0
unfolding entry_in
read_stands v =
    ⊎_elim (λ (e : eqb v.count (record_size v.bytes 0) ≡ true). rw e (λ some. refl)) (λ (e : eqb v.count (record_size v.bytes 0) ≡ false). rw e (λ some. absurd (some refl)))
    (true_or_false (eqb v.count (record_size v.bytes 0)))

module _ (t : Set) (a : Alloc) where
  -- ---- the record that a byte ends, if it ends one

  pub none_looked_lem : (l : Looked) (n : NextEntry) → n.next ≡ 0 → l ≡ looked_all t a l (entries_of n)
  unfolding entries_of looked_all
  none_looked_lem l n e = rw (eq-eqb n.next 0 e) refl

  one_looked : (l : Looked) (n : NextEntry) → n.next ≢ 0 → looked_at t a l n.entry ≡ looked_all t a l (entries_of n)
  unfolding entries_of looked_all
  one_looked l n e = rw (ne_eqb n.next 0 e) refl

  pub field_looked : (l : Looked) (v : Gathered) (n : NextEntry) → n ≡ entry_in v → n.next ≢ 0 → looked_at t a l (next_entry v.bytes 0).entry ≡ looked_all t a l (entries_of (entry_in v))
  field_looked l v n is some =
      let came : (entry_in v).next ≢ 0 = λ z. some (ap (λ (x : NextEntry). x.next) is ∙ z) in
      ap (λ (x : NextEntry). looked_at t a l x.entry) (sym (read_stands v came)) ∙ one_looked l (entry_in v) came

  -- ---- the bytes from one place on, and those that are left

  module _ (bs : List ℕ) (v₀ : Gathered) (l₀ : Looked) (from : ℕ) where
    pub record Going (v : Gathered) (l : Looked) (i : ℕ) : Type 0 where
      pub reads : read_over v₀ (drop from bs) ≡ read_over v (drop i bs)
      pub looks : looked_all t a l₀ (handed_over v₀ (drop from bs)) ≡ looked_all t a l (handed_over v (drop i bs))

    pub going_first : Going v₀ l₀ from
    going_first = record { reads = refl; looks = refl }

    pub going_on : (v w : Gathered) (l m : Looked) (i : ℕ) → Going v l i → i < length bs → w ≡ stepped v (at bs i) → m ≡ looked_all t a l (entries_of (entry_in w)) → Going w m (i + 1)
    unfolding read_over handed_over
    going_on v w l m i g inside read looked =
        let more : drop i bs ≡ at bs i ∷ drop (i + 1) bs = rw add-one (drop-cons bs i 0 inside) in
        let rest = drop (i + 1) bs in
        record {
          reads = g.reads ∙ ap (read_over v) more ∙ ap (λ (x : Gathered). read_over x rest) (sym read);
          looks =
              g.looks
              ∙ ap (λ (xs : List ℕ). looked_all t a l (handed_over v xs)) more
              ∙ ap (λ (x : Gathered). looked_all t a l (entries_of (entry_in x) ++ handed_over x rest)) (sym read)
              ∙ look_append t a l (entries_of (entry_in w)) (handed_over w rest)
              ∙ ap (λ (x : Looked). looked_all t a x (handed_over w rest)) (sym looked);
        }

    pub going_ends : (v : Gathered) (l : Looked) (i : ℕ) → Going v l i → length bs ≤ i → (v ≡ read_over v₀ (drop from bs)) × (l ≡ looked_all t a l₀ (handed_over v₀ (drop from bs)))
    unfolding read_over handed_over looked_all
    going_ends v l i g past =
        let none = drop_of_length-le bs past in
        (sym (g.reads ∙ ap (read_over v) none), sym (g.looks ∙ ap (λ (xs : List ℕ). looked_all t a l (handed_over v xs)) none))
