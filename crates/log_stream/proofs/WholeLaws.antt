-- The fields of a log one after another: what is read byte after byte from a place on is what the walk over the whole log finds there.
use Prim.Native.Nat.{ℕ, zero, suc, ◌+◌, ◌-◌, ◌≤◌, ◌<◌}
use mathlib.Core.Path.{◌≡◌, refl, sym, ap, ◌∙◌}
use mathlib.Core.Bool.{true, false, ◌&&◌}
use mathlib.Core.List.{List, [], ◌∷◌}
use mathlib.Core.Logic.{◌≢◌, ⊎_elim}
use native.Mathlib.Omega.{arith}
use native.Mathlib.Nat.{add_assoc, add-zero, zero-add}
use borrow.Author.Tests.{le-leb, lt-leb}
use lib.Dec.{leb, eqb}
use lib.ListN.{length, drop, length-drop}
use lib.Seq.{get_or-drop, drop-drop}
use Rattle.units.proofs.SmallLaws.{below_or_not}
use Rattle.units.specs.Judging.{or_else}
use Rattle.units.proofs.JudgingLaws.{true_or_false}
use Rattle.units.specs.Places.{at}
use Rattle.fields.specs.Bytes.{short_at}
use Rattle.fields.specs.Fields.{tag_at, size_at}
use Rattle.log_records.specs.Visit.{visit_stands}
use Rattle.log_records.specs.Mark.{mark_stands}
use Rattle.log_records.specs.Entry.{next_entry}
use Rattle.log_records.specs.declared.Entry.{Entry}
use Rattle.field_reader.proofs.ScannedLaws.{zero_or_not}
use Rattle.logs.specs.Records.{is_record, record_size}
use Rattle.logs.specs.Walked.{is_end, stop_number, walk_from, walked}
use Rattle.logs.specs.Reading.{handed_from}
use Rattle.logs.specs.declared.Walked.{Walked}
use Rattle.logs.proofs.RecordLaws.{record_there, record_cut, handed_out_lem}
use Rattle.logs.proofs.WalkLaws.{walk_stops, walk_turn}
use Rattle.log_stream.proofs.GatheredLaws.{entry_same}
use Rattle.log_stream.proofs.FieldLaws.{Reads, body_size, body_is, same_start, short, other_read, end_read, cut_read, record_read}

-- ---- bytes of a part

at_part : (bs : List ℕ) (a i : ℕ) → at (drop a bs) i ≡ at bs (a + i)
at_part bs a i = get_or-drop a bs i 0

short_part : (bs : List ℕ) (a i : ℕ) → short_at (drop a bs) i ≡ short_at bs (a + i)
unfolding short_at
short_part bs a i = rw (at_part bs a i, at_part bs a (i + 1), add_assoc a i 1) refl

-- a field with this tag and this length begins there
begins_part : (bs : List ℕ) (a tag size : ℕ) → (eqb (tag_at (drop a bs) 0) tag && eqb (size_at (drop a bs) 0) size) ≡ (eqb (tag_at bs a) tag && eqb (size_at bs a) size)
begins_part bs a tag size = rw (at_part bs a 0, short_part bs a 1, add-zero a) refl

-- the length of a part decides the same
size_part : (n a k : ℕ) → a ≤ n → leb (n - a) k ≡ leb n (a + k)
size_part n a k l =
    ⊎_elim (λ (b : k < n - a). lt-leb (n - a) k b ∙ sym (lt-leb n (a + k) (omega arith)))
    (λ (b : n - a ≤ k). le-leb (n - a) k b ∙ sym (le-leb n (a + k) (omega arith)))
    (below_or_not k (n - a))

fits_part : (n a k : ℕ) → a ≤ n → leb k (n - a) ≡ leb (a + k) n
fits_part n a k l =
    ⊎_elim (λ (b : n - a < k). lt-leb k (n - a) b ∙ sym (lt-leb (a + k) n (omega arith)))
    (λ (b : k ≤ n - a). le-leb k (n - a) b ∙ sym (le-leb (a + k) n (omega arith)))
    (below_or_not (n - a) k)

-- under other names
reads_as : {zs : List ℕ} {n m : ℕ} {es fs : List Entry} → Reads zs n es → n ≡ m → es ≡ fs → Reads zs m fs
reads_as r e f = record { ends = r.ends ∙ e; hands = r.hands ∙ f }

-- ---- why the reading stops

-- at the start of the bytes, where no whole record stands
module _ (x y z : ℕ) (rest : List ℕ) where
  enough : leb 3 (length (x ∷ y ∷ z ∷ rest) - 0) ≡ true
  enough = le-leb 3 (length (x ∷ y ∷ z ∷ rest) - 0) (omega arith)

  stop_record : is_record (x ∷ y ∷ z ∷ rest) 0 ≡ true → record_size (x ∷ y ∷ z ∷ rest) 0 ≡ 0 → Reads (x ∷ y ∷ z ∷ rest) (stop_number (x ∷ y ∷ z ∷ rest) 0) []
  unfolding stop_number or_else
  stop_record v none =
      let zs = x ∷ y ∷ z ∷ rest in
      rw (enough, v) (cut_read x y z (same_start x y z rest [] v) rest (omega (arith, record_cut zs 0 none v, body_is x y z rest)))

  stop_other : is_record (x ∷ y ∷ z ∷ rest) 0 ≡ false → Reads (x ∷ y ∷ z ∷ rest) (stop_number (x ∷ y ∷ z ∷ rest) 0) []
  unfolding stop_number or_else
  stop_other v =
      ⊎_elim (λ (e : is_end (x ∷ y ∷ z ∷ rest) 0 ≡ true). rw (enough, v, e) (end_read x y z rest v e))
      (λ (e : is_end (x ∷ y ∷ z ∷ rest) 0 ≡ false). rw (enough, v, e) (other_read x y z rest v e))
      (true_or_false (is_end (x ∷ y ∷ z ∷ rest) 0))

stop_at : (zs : List ℕ) → record_size zs 0 ≡ 0 → Reads zs (stop_number zs 0) []
unfolding stop_number or_else
stop_at [] none = short [] (omega arith)
stop_at (x ∷ []) none = short (x ∷ []) (omega arith)
stop_at (x ∷ y ∷ []) none = short (x ∷ y ∷ []) (omega arith)
stop_at (x ∷ y ∷ z ∷ rest) none =
    ⊎_elim (λ (v : is_record (x ∷ y ∷ z ∷ rest) 0 ≡ true). stop_record x y z rest v none)
    (λ (v : is_record (x ∷ y ∷ z ∷ rest) 0 ≡ false). stop_other x y z rest v)
    (true_or_false (is_record (x ∷ y ∷ z ∷ rest) 0))

module _ (bs : List ℕ) (a : ℕ) (l : a ≤ length bs) where
  long : length (drop a bs) ≡ length bs - a
  long = length-drop a bs

  size_same : record_size (drop a bs) 0 ≡ record_size bs a
  unfolding record_size visit_stands mark_stands
  size_same = rw (long, fits_part (length bs) a 20 l, fits_part (length bs) a 5 l, begins_part bs a 16 17, begins_part bs a 17 2) refl

  stop_part : stop_number (drop a bs) 0 ≡ stop_number bs a
  unfolding stop_number
  stop_part =
      let none : length bs - a - 0 ≡ length bs - a = omega arith in
      rw (long, none, begins_part bs a 16 17, begins_part bs a 17 2, begins_part bs a 255 0, size_part (length bs) a 3 l) refl

  part_same : (next_entry (drop a bs) 0).entry ≡ (next_entry bs a).entry
  part_same = entry_same (drop a bs) bs 0 a size_same (λ i below. at_part bs a (0 + i) ∙ ap (λ (k : ℕ). at bs (a + k)) (zero-add i))

-- ---- a whole record at the start of the bytes

record_first : (zs : List ℕ) (number : ℕ) (es : List Entry) → record_size zs 0 ≢ 0 → Reads (drop (record_size zs 0) zs) number es → Reads zs number ((next_entry zs 0).entry ∷ es)
record_first [] number es some behind = absurd (omega (arith, (record_there [] 0 some).inside, (record_there [] 0 some).some))
record_first (x ∷ []) number es some behind = absurd (omega (arith, (record_there (x ∷ []) 0 some).inside, (record_there (x ∷ []) 0 some).some))
record_first (x ∷ y ∷ []) number es some behind = absurd (omega (arith, (record_there (x ∷ y ∷ []) 0 some).inside, (record_there (x ∷ y ∷ []) 0 some).some))
record_first (x ∷ y ∷ z ∷ rest) number es some behind =
    let zs = x ∷ y ∷ z ∷ rest in
    let there = record_there zs 0 some in
    let n = body_size y z in
    let size : record_size (x ∷ y ∷ z ∷ rest) 0 ≡ 3 + body_size y z = omega (arith, there.next, body_is x y z rest) in
    let parts : drop (body_size y z) rest ≡ drop (3 + body_size y z) (x ∷ y ∷ z ∷ rest) = drop-drop n 3 zs in
    record_read x y z rest number es there.here (omega (arith, there.inside, size)) (rw (parts, ← size) behind)

-- ---- the walk over the whole log

module _ (bs : List ℕ) (a : ℕ) where
  handed_more : (n : ℕ) → record_size bs a ≢ 0 → handed_from (suc n) bs a ≡ (next_entry bs a).entry ∷ handed_from n bs (a + record_size bs a)
  unfolding handed_from
  handed_more n some = ap (λ (b : ℕ). (next_entry bs a).entry ∷ handed_from n bs b) (handed_out_lem bs a some).next

  handed_none : handed_from 0 bs a ≡ []
  unfolding handed_from
  handed_none = refl

-- where the count begins does not matter
walk_number : (most : ℕ) (bs : List ℕ) (n m a : ℕ) → (walk_from most bs n a).number ≡ (walk_from most bs m a).number
unfolding walk_from
walk_number zero bs n m a = refl
walk_number (suc most) bs n m a =
    ⊎_elim (λ (e : eqb (record_size bs a) 0 ≡ true). rw e refl) (λ (e : eqb (record_size bs a) 0 ≡ false). rw e (walk_number most bs (n + 1) (m + 1) (a + record_size bs a)))
    (true_or_false (eqb (record_size bs a) 0))

walk_records : (most : ℕ) (bs : List ℕ) (n a : ℕ) → (walk_from most bs n a).records ≡ n + (walk_from most bs 0 a).records
unfolding walk_from
walk_records zero bs n a = omega arith
walk_records (suc most) bs n a =
    let b = a + record_size bs a in
    ⊎_elim (λ (e : eqb (record_size bs a) 0 ≡ true). rw e (omega arith))
    (λ (e : eqb (record_size bs a) 0 ≡ false). rw e (omega (arith, walk_records most bs (n + 1) b, walk_records most bs 1 b)))
    (true_or_false (eqb (record_size bs a) 0))

from_place : (most : ℕ) (bs : List ℕ) (a : ℕ) → a ≤ length bs → length bs < a + most → Reads (drop a bs) (walk_from most bs 0 a).number (handed_from (walk_from most bs 0 a).records bs a)
from_place zero bs a l few = absurd (omega arith)
from_place (suc most) bs a l few =
    ⊎_elim
    (λ (z : record_size bs a ≡ 0).
    let stops = walk_stops bs 0 a (suc most) (omega arith) z in
    reads_as (stop_at (drop a bs) (size_same bs a l ∙ z))
    (stop_part bs a l ∙ sym (ap (λ (w : Walked). w.number) stops))
    (sym (ap (λ (w : Walked). handed_from w.records bs a) stops ∙ handed_none bs a)))
    (λ (some : record_size bs a ≢ 0).
    let there = record_there bs a some in
    let b = a + record_size bs a in
    let next : Walked = walk_from most bs 0 (a + record_size bs a) in
    let behind = from_place most bs b there.inside (omega (arith, there.some)) in
    let more : walk_from (suc most) bs 0 a ≡ walk_from most bs 1 (a + record_size bs a) = walk_turn bs 0 a most some in
    let counted : (walk_from most bs 1 (a + record_size bs a)).records ≡ suc (walk_from most bs 0 (a + record_size bs a)).records = omega (arith, walk_records most bs 1 b) in
    reads_as (record_first (drop a bs) _ _ (λ z. some (sym (size_same bs a l) ∙ z)) (rw (size_same bs a l, drop-drop (record_size bs a) a bs) behind))
    (sym (ap (λ (w : Walked). w.number) more ∙ walk_number most bs 1 0 b))
    (ap (λ (x : Entry). x ∷ handed_from next.records bs b) (part_same bs a l)
    ∙ sym (handed_more bs a next.records some)
    ∙ ap (λ (n : ℕ). handed_from n bs a) (sym (ap (λ (w : Walked). w.records) more ∙ counted))))
    (zero_or_not (record_size bs a))

-- from a place on to the end of the log
pub whole_read : (bs : List ℕ) (a : ℕ) → a ≤ length bs → Reads (drop a bs) (walked bs a).number (handed_from (walked bs a).records bs a)
unfolding walked
whole_read bs a l = from_place (suc (length bs)) bs a l (omega arith)
