-- The laws of a log's record, whatever its kind: it stands where its field begins and is whole, and what follows it stands behind that field. Each is by cases of the kind, and nothing above this file is.
use Rattle.std.proofs.lemmas.Bool.{or_cases, or_left, or_right}
use Rattle.std.proofs.Common.{◌≡◌, ℕ, ◌+◌, ◌<◌, ◌≤◌, true, false, ◌≢◌, List, length, sym, refl, ap, ◌∙◌, ⊎_elim, arith}
use Rattle.units.proofs.SmallLaws.{below_or_not}
use Rattle.fields.specs.Bytes.{AllBytes}
use Rattle.fields.specs.Fields.{tag_at, size_at, behind}
use Rattle.fields.proofs.SegmentLaws.{Stands}
use Rattle.field_reader.proofs.ScannedLaws.{zero_or_not}
use Rattle.log_records.specs.Visit.{visit_at, is_visit, visit_stands}
use Rattle.log_records.specs.Mark.{mark_at, is_mark, mark_stands}
use Rattle.log_records.specs.Entry.{entry_bytes, EntryFits, next_entry}
use Rattle.log_records.specs.declared.Entry.{Entry}
use Rattle.log_records.specs.declared.Entry.TheVariants.{Visit, Mark}
use Rattle.log_records.specs.declared.NextEntry.{NextEntry}
use Rattle.log_records.proofs.FieldLaws.{FieldThere, field_says, field_begins}
use Rattle.log_records.proofs.VisitLaws.{visit_length_lem, visit_there, there_visit, stands_visit, stands_read, visit_bytes_lem, visit_fits}
use Rattle.log_records.proofs.MarkLaws.{mark_length_lem, mark_there, there_mark, stands_mark, mark_read, mark_bytes_lem, mark_fits}
use Rattle.log_records.proofs.EntryLaws.{mark_no_visit, Standing, a_visit_lem, a_mark_lem, nothing, standing, handed_visit, handed_mark}
use Rattle.logs.specs.Records.{is_record, record_size}

-- ---- a record that stands

-- what is known where a whole record stands
pub record RecordThere (bs : List ℕ) (a : ℕ) : Type 0 where
  pub here : is_record bs a ≡ true
  pub inside : a + record_size bs a ≤ length bs
  pub some : 3 ≤ record_size bs a
  pub next : behind bs a ≡ a + record_size bs a

module _ (bs : List ℕ) (a : ℕ) where
  -- its tag and its length
  pub visit_says : is_visit bs a ≡ true → (tag_at bs a ≡ 16) × (size_at bs a ≡ 17)
  visit_says h = field_says bs a 16 17 h

  pub mark_says : is_mark bs a ≡ true → (tag_at bs a ≡ 17) × (size_at bs a ≡ 2)
  mark_says h = field_says bs a 17 2 h

  -- its tag is none of the plan's fields', and not the end's
  pub record_tag : is_record bs a ≡ true → (16 ≤ tag_at bs a) × (tag_at bs a < 255)
  record_tag h =
      ⊎_elim (λ (v : is_visit bs a ≡ true). (omega (arith, (visit_says v).0), omega (arith, (visit_says v).0)))
      (λ (m : is_mark bs a ≡ true). (omega (arith, (mark_says m).0), omega (arith, (mark_says m).0)))
      (or_cases _ _ h)

  -- how long its field is
  pub visit_size_lem : visit_stands bs a ≡ true → record_size bs a ≡ 20
  unfolding record_size
  visit_size_lem h = rw h refl

  pub mark_size_lem : mark_stands bs a ≡ true → record_size bs a ≡ 5
  unfolding record_size
  mark_size_lem h = rw (mark_no_visit bs a h, h) refl

  pub no_size : visit_stands bs a ≡ false → mark_stands bs a ≡ false → record_size bs a ≡ 0
  unfolding record_size
  no_size v m = rw (v, m) refl

  field_record : (tag size : ℕ) → is_record bs a ≡ true → FieldThere bs a tag size (3 + size) → record_size bs a ≡ 3 + size → RecordThere bs a
  field_record tag size here f e =
      record { here = here; inside = omega (arith, e, f.inside); some = omega (arith, e); next = omega (arith, e, f.has_size) }

  pub record_there : record_size bs a ≢ 0 → RecordThere bs a
  record_there n = go (standing bs a)
    where
      go : Standing bs a → RecordThere bs a
      go (a_visit_lem h) = let v = visit_there bs a h in field_record 16 17 (or_left (is_visit bs a) (is_mark bs a) (field_begins bs a 16 17 20 v)) v (visit_size_lem h)
      go (a_mark_lem h) = let m = mark_there bs a h in field_record 17 2 (or_right (is_visit bs a) (is_mark bs a) (field_begins bs a 17 2 5 m)) m (mark_size_lem h)
      go (nothing v m) = absurd (n (no_size v m))

  -- a field that begins as a record's and is whole is one
  pub whole_record : is_record bs a ≡ true → behind bs a ≤ length bs → record_size bs a ≢ 0
  whole_record h inside z =
      ⊎_elim (λ (v : is_visit bs a ≡ true).
      let w = visit_says v in
      let size = visit_size_lem (there_visit bs a (record { inside = omega (arith, w.1); has_tag = w.0; has_size = w.1 })) in
      absurd (omega (arith, size)))
      (λ (m : is_mark bs a ≡ true).
      let w = mark_says m in
      let size = mark_size_lem (there_mark bs a (record { inside = omega (arith, w.1); has_tag = w.0; has_size = w.1 })) in
      absurd (omega (arith, size)))
      (or_cases _ _ h)

  -- one that is not whole is none
  pub record_cut : record_size bs a ≡ 0 → is_record bs a ≡ true → length bs < behind bs a
  record_cut z v =
      ⊎_elim (λ (b : length bs < behind bs a). b) (λ (b : behind bs a ≤ length bs). absurd (whole_record v b z)) (below_or_not (length bs) (behind bs a))

  -- none stands where one would be wrong
  pub no_record_lem : (RecordThere bs a → ⊥) → record_size bs a ≡ 0
  no_record_lem wrong = ⊎_elim (λ (z : record_size bs a ≡ 0). z) (λ (n : record_size bs a ≢ 0). absurd (wrong (record_there n))) (zero_or_not (record_size bs a))

-- ---- what is handed out

-- of the record that stands there: the place behind it, and its field, which stands in the bytes
pub record Handed (bs : List ℕ) (a : ℕ) : Type 0 where
  pub next : (next_entry bs a).next ≡ a + record_size bs a
  pub long : length (entry_bytes (next_entry bs a).entry) ≡ record_size bs a
  pub field : AllBytes bs → Stands bs a (entry_bytes (next_entry bs a).entry)
  pub fits : AllBytes bs → EntryFits (next_entry bs a).entry

-- where the field of an entry stands, that is the record, and it is handed out
pub record Laid (bs : List ℕ) (a : ℕ) (e : Entry) : Type 0 where
  pub size : record_size bs a ≡ length (entry_bytes e)
  pub some : record_size bs a ≢ 0
  pub handed : EntryFits e → (next_entry bs a).entry ≡ e

module _ (bs : List ℕ) (a : ℕ) where
  handed_as : (e : Entry) (whole : ℕ) → next_entry bs a ≡ record { entry = e; next = a + whole } → record_size bs a ≡ whole → length (entry_bytes e) ≡ whole
      → (AllBytes bs → Stands bs a (entry_bytes e)) → (AllBytes bs → EntryFits e) → Handed bs a
  handed_as e whole out size long field fits =
      record {
        next = ap (λ (x : NextEntry). x.next) out ∙ ap (λ (k : ℕ). a + k) (sym size);
        long = ap (λ (x : NextEntry). length (entry_bytes x.entry)) out ∙ long ∙ sym size;
        field = λ bytes. rw out (field bytes);
        fits = λ bytes. rw out (fits bytes);
      }

  pub handed_out_lem : record_size bs a ≢ 0 → Handed bs a
  handed_out_lem n = go (standing bs a)
    where
      go : Standing bs a → Handed bs a
      go (a_visit_lem h) =
          let v = visit_there bs a h in
          handed_as (Visit (visit_at bs a)) 20 (handed_visit bs a h) (visit_size_lem bs a h) (visit_length_lem (visit_at bs a)) (λ bytes. visit_bytes_lem bs a bytes v) (λ bytes. visit_fits bs a bytes v)
      go (a_mark_lem h) =
          let m = mark_there bs a h in
          handed_as (Mark (mark_at bs a)) 5 (handed_mark bs a h) (mark_size_lem bs a h) (mark_length_lem (mark_at bs a)) (λ bytes. mark_bytes_lem bs a bytes m) (λ bytes. mark_fits bs a bytes m)
      go (nothing v m) = absurd (n (no_size bs a v m))

  pub laid_out : (e : Entry) → Stands bs a (entry_bytes e) → Laid bs a e
  laid_out (Visit v) s =
      let there = there_visit bs a (stands_visit bs a v s) in
      let size = visit_size_lem bs a there in
      record {
        size = size ∙ sym (visit_length_lem v);
        some = λ z. omega (arith, size);
        handed = λ f. ap (λ (x : NextEntry). x.entry) (handed_visit bs a there) ∙ ap Visit (stands_read bs a v f s);
      }
  laid_out (Mark m) s =
      let there = there_mark bs a (stands_mark bs a m s) in
      let size = mark_size_lem bs a there in
      record {
        size = size ∙ sym (mark_length_lem m);
        some = λ z. omega (arith, size);
        handed = λ f. ap (λ (x : NextEntry). x.entry) (handed_mark bs a there) ∙ ap Mark (mark_read bs a m f s);
      }
