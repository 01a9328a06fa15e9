-- The laws of layout and writing.
use Prim.Native.Nat.{ℕ, zero, suc, ◌+◌, ◌*◌, ◌≤◌, ◌<◌}
use mathlib.Core.Path.{◌≡◌, refl, sym, ap, ◌∙◌}
use mathlib.Core.Bool.{Bool}
use mathlib.Core.List.{List, [], ◌++◌, append_assoc, append-nil}
use mathlib.Core.Logic.{⊎_elim, ◌≢◌}
use native.Mathlib.Numerals.{add-one}
use native.Mathlib.Nat.{mul-suc, mul-le-mul_left}
use native.Mathlib.Omega.{arith}
use lib.ListN.{length, take, drop, length-append}
use lib.Seq.{drop-drop}
use borrow.Rule.Slice.PartMut.{put_mid}
use borrow.Author.Tests.{leb-true, le-leb, lt-leb, ne_eqb}
use Rattle.units.proofs.JudgingLaws.{held, failed, passed}
use Rattle.units.specs.Places.{sum_below}
use Rattle.units.proofs.PlaceLaws.{sum_split}
use Rattle.sets.specs.Header.{head_number}
use Rattle.sets.specs.declared.Head.{Head}
use Rattle.sets.specs.declared.Set.{Set}
use Rattle.plans.specs.declared.Alloc.{Alloc}
use Rattle.fields.specs.Rows.{rows, laid}
use Rattle.fields.specs.Bytes.{bytes_of, body_of}
use Rattle.fields.specs.Fields.{mode_tag, further_size, allocations_for}
use Rattle.fields.specs.Header.{further_count, absent}
use Rattle.fields.proofs.RowLaws.{rows_none, rows_step, laid_none, laid_first}
use Rattle.fields.proofs.SegmentLaws.{rows_length, laid_more, rows_then}
use Rattle.fields.proofs.ByteLaws.{bytes_length}
use Rattle.fields.proofs.FieldLaws.{further_small}
use Rattle.fields.proofs.HeaderLaws.{same_or_not, body_length}
use Rattle.sheets.specs.Layout.{mark, further_bytes, further_length, further_field, head_up_to, head_bytes, length_up_to, head_length, station_with, allocation_with, station_bytes, allocation_bytes, end_bytes, fields_of, fields_length, sheet_of, sheet_length}
use Rattle.sheets.specs.Reading.{judged_sheet}
use Rattle.sheets.proofs.ReadLaws.{then_rest, then_keeps, then_none}
use Rattle.sheets.specs.Writing.{write_number, write_answer, buffer_after, refused_writing, Wrote, WroteFields, room_number, laid_after, PutAt}
use Rattle.sheets.specs.declared.Written.{Written}

-- ---- lengths

module _ (tag number : ℕ) where
  pub further_none : number ≡ absent → further_bytes tag number ≡ []
  unfolding further_bytes
  further_none e = rw e refl

  pub further_some : number ≢ absent → further_bytes tag number ≡ mark tag (further_size tag) ++ body_of (further_size tag) number
  unfolding further_bytes
  further_some other = rw (ne_eqb number absent other) refl

  pub length_none : number ≡ absent → further_length tag number ≡ 0
  unfolding further_length
  length_none e = rw e refl

  pub length_some : number ≢ absent → further_length tag number ≡ 3 + further_size tag
  unfolding further_length
  length_some other = rw (ne_eqb number absent other) refl

  pub further_long : length (further_bytes tag number) ≡ further_length tag number
  further_long =
      ⊎_elim (λ (e : number ≡ absent). ap length (further_none e) ∙ sym (length_none e))
      (λ (other : number ≢ absent).
      ap length (further_some other)
      ∙ length-append (mark tag (further_size tag)) (body_of (further_size tag) number)
      ∙ ap (λ (k : ℕ). 3 + k) (body_length tag number)
      ∙ sym (length_some other))
      (same_or_not number absent)

  pub length_small : further_length tag number ≤ 7
  length_small =
      ⊎_elim (λ (e : number ≡ absent). omega (arith, length_none e)) (λ (other : number ≢ absent). omega (arith, length_some other, further_small tag)) (same_or_not number absent)

module _ (h : Head) where
  -- one field more
  pub up_to_none : head_up_to h 0 ≡ mark 1 4 ++ bytes_of h.ttrt
  unfolding head_up_to
  up_to_none = refl

  pub up_to_more : (k : ℕ) → head_up_to h (suc k) ≡ head_up_to h k ++ further_bytes (mode_tag + k) (head_number h (mode_tag + k))
  unfolding head_up_to
  up_to_more k = refl

  pub length_more : (k : ℕ) → length_up_to h (suc k) ≡ length_up_to h k + further_length (mode_tag + k) (head_number h (mode_tag + k))
  unfolding sum_below
  length_more k = refl

  pub up_to_length : (k : ℕ) → length (head_up_to h k) ≡ 7 + length_up_to h k
  unfolding head_up_to sum_below bytes_of
  up_to_length zero = refl
  up_to_length (suc k) =
      let f = further_bytes (mode_tag + k) (head_number h (mode_tag + k)) in
      omega (arith, length-append (head_up_to h k) f, up_to_length k, further_long (mode_tag + k) (head_number h (mode_tag + k)))

  pub head_long : length (head_bytes h) ≡ 7 + head_length h
  head_long = up_to_length further_count

  -- TTRT's field, then the rows of those behind it
  pub up_to_rows : (k : ℕ) → head_up_to h k ≡ (mark 1 4 ++ bytes_of h.ttrt) ++ rows k (further_field h)
  unfolding rows
  up_to_rows zero = up_to_none ∙ sym (append-nil _)
  up_to_rows (suc k) = up_to_more k ∙ ap (λ (s : List ℕ). s ++ further_field h k) (up_to_rows k) ∙ append_assoc (mark 1 4 ++ bytes_of h.ttrt) (rows k (further_field h)) (further_field h k)

  -- how many bytes these have
  pub lengths_none : length_up_to h 0 ≡ 0
  unfolding sum_below
  lengths_none = refl

  pub further_rows : (k : ℕ) → length (rows k (further_field h)) ≡ length_up_to h k
  further_rows k = omega (arith, up_to_length k, ap length (up_to_rows k), length-append (mark 1 4 ++ bytes_of h.ttrt) (rows k (further_field h)), bytes_length h.ttrt, length-append (mark 1 4) (bytes_of h.ttrt))

  -- all of them, one by one
  pub head_fields : head_bytes h ≡ mark 1 4 ++ bytes_of h.ttrt ++ further_bytes 4 h.mode ++ further_bytes 5 h.frame ++ further_bytes 6 h.grid
  unfolding head_up_to head_number
  head_fields = refl

  pub head_lengths : head_length h ≡ further_length 4 h.mode + further_length 5 h.frame + further_length 6 h.grid
  unfolding sum_below head_number
  head_lengths = omega arith

  pub head_small : (k : ℕ) → length_up_to h k ≤ 7 * k
  unfolding sum_below
  head_small zero = omega arith
  head_small (suc k) = omega (arith, head_small k, length_small (mode_tag + k) (head_number h (mode_tag + k)))

  -- the length with one field more, of a number that is the header's
  pub length_turn : (k : ℕ) {sum number size : ℕ} → sum ≡ length_up_to h k → number ≡ head_number h (mode_tag + k) → size ≡ further_length (mode_tag + k) number → sum + size ≡ length_up_to h (k + 1)
  length_turn k s n z = omega (arith, ap (length_up_to h) (add-one k), length_more k, ap (further_length (mode_tag + k)) n)

  -- no more than that of all
  pub lengths_rise : (k : ℕ) → k ≤ further_count → length_up_to h k ≤ head_length h
  lengths_rise k l = omega (arith, sum_split further_count (λ i. further_length (mode_tag + i) (head_number h (mode_tag + i))) k l)

pub station_length : (w c d p : ℕ) → length (station_with w c d p) ≡ 19
unfolding station_with bytes_of
station_length w c d p = refl

pub allocation_length : (s : ℕ) → length (allocation_with s) ≡ 7
unfolding allocation_with bytes_of
allocation_length s = refl

pub stations_length : (t : Set) (n : ℕ) → length (rows n (station_bytes t)) ≡ 19 * n
stations_length t n = rows_length n 19 (station_bytes t) (λ i. station_length _ _ _ _)

pub allocations_length : (a : Alloc) (m : ℕ) → length (rows m (allocation_bytes a)) ≡ 7 * m
allocations_length a m = rows_length m 7 (allocation_bytes a) (λ i. allocation_length _)

pub fields_long : (plan : Bool) (t : Set) (a : Alloc) → length (fields_of plan t a) ≡ fields_length plan t
fields_long plan t a =
    let n = t.n in
    let m = allocations_for plan t.n in
    let h = head_bytes t.head in
    let st = rows n (station_bytes t) in
    let al = rows m (allocation_bytes a) in
    let l₁ = head_long t.head in
    let l₂ = stations_length t n in
    let l₃ = allocations_length a m in
    omega (arith, length-append (h ++ st) al, length-append h st)

pub sheet_long : (plan : Bool) (t : Set) (a : Alloc) → length (sheet_of plan t a) ≡ sheet_length plan t
unfolding sheet_of
sheet_long plan t a = omega (arith, length-append (fields_of plan t a) end_bytes, fields_long plan t a)

-- ---- bytes put over as many others

-- they are laid there
pub part_laid : (out s : List ℕ) (a k : ℕ) → length s ≡ k → put_mid a k out s ≡ laid out a s
unfolding laid
part_laid out s a k e =
    ap (λ (rest : List ℕ). take a out ++ (s ++ rest)) (drop-drop k a out ∙ ap (λ (n : ℕ). drop (a + n) out) (sym e))
    ∙ sym (append_assoc (take a out) s (drop (a + length s) out))

-- ---- like rows laid by a loop

-- what the loop keeps: i rows are laid from the place on
pub record RowsLaid (out₀ out : List ℕ) (from i : ℕ) (row : ℕ → List ℕ) : Type 0 where
  pub so_far : out ≡ laid out₀ from (rows i row)
  pub long : length out ≡ length out₀

pub rows_begin : {out₀ : List ℕ} {from : ℕ} {row : ℕ → List ℕ} → RowsLaid out₀ out₀ from 0 row
rows_begin = record { so_far = sym (rw rows_none (laid_none _ _)); long = refl }

-- a turn lays the next of n rows behind them
pub rows_turn : {out₀ out next : List ℕ} {from step n i : ℕ} {row : ℕ → List ℕ} → ((i : ℕ) → length (row i) ≡ step) → RowsLaid out₀ out from i row → i < n → from + step * n ≤ length out₀
    → next ≡ laid out (from + step * i) (row i) → length next ≡ length out → RowsLaid out₀ next from (i + 1) row
rows_turn {out₀} {out} {next} {from} {step} {n} {i} {row} each r l fits e same =
    let room : step * suc i ≤ step * n = mul-le-mul_left step l in
    let one_more = mul-suc step i in
    record {
      so_far = rows_then out₀ out next from (from + step * i) i step row each r.so_far refl e (omega arith);
      long = same ∙ r.long;
    }

-- ---- the header's fields behind TTRT, laid one after another

-- the first k are laid, up to the place `at`
pub record FurtherLaid (out₀ out : List ℕ) (h : Head) (at k : ℕ) : Type 0 where
  pub here : at ≡ 7 + length_up_to h k
  pub so_far : out ≡ laid out₀ 7 (rows k (further_field h))
  pub long : length out ≡ length out₀

module _ {out₀ : List ℕ} {h : Head} (fits : 7 + head_length h ≤ length out₀) where
  pub further_begin : FurtherLaid out₀ out₀ h 7 0
  further_begin = record { here = omega (arith, lengths_none h); so_far = sym (rw rows_none (laid_none _ _)); long = refl }

  -- the next one, of the header's number, has room
  pub further_room : {out : List ℕ} {at k number : ℕ} → FurtherLaid out₀ out h at k → k < further_count → number ≡ head_number h (mode_tag + k)
      → at + further_length (mode_tag + k) number ≤ length out
  further_room {k = k} s l n = omega (arith, s.here, s.long, length_turn h k refl n refl, lengths_rise h (k + 1) (omega arith))

  -- a turn lays it behind them
  pub further_turn : {out next : List ℕ} {at k number size : ℕ} → FurtherLaid out₀ out h at k → k < further_count → number ≡ head_number h (mode_tag + k)
      → size ≡ further_length (mode_tag + k) number → next ≡ laid out at (further_bytes (mode_tag + k) number) → length next ≡ length out → FurtherLaid out₀ next h (at + size) (k + 1)
  further_turn {out} {next} {at} {k} {number} s l n z e same =
      let room = further_room s l n in
      let field : next ≡ laid out at (further_field h k) = e ∙ ap (λ (x : ℕ). laid out at (further_bytes (mode_tag + k) x)) n in
      record {
        here = omega (arith, s.here, length_turn h k refl n z);
        so_far = rw rows_step
            (laid_more out₀ out next 7 at (rows k (further_field h)) (further_field h k) s.so_far (omega (arith, s.here, further_rows h k)) field
            (omega (arith, s.long, further_long (mode_tag + k) number, ap (λ (x : ℕ). length (further_bytes (mode_tag + k) x)) n)));
        long = same ∙ s.long;
      }

-- ---- the fields of a sheet, laid one after another

-- the buffer behind each of the three parts; the stations begin at the place `from`
pub record PartsLaid (t : Set) (a : Alloc) (from m : ℕ) (o o₁ o₂ o₃ : List ℕ) : Type 0 where
  pub head : o₁ ≡ laid o 0 (head_bytes t.head)
  pub stations : o₂ ≡ laid o₁ from (rows t.n (station_bytes t))
  pub allocations : o₃ ≡ laid o₂ (from + 19 * t.n) (rows m (allocation_bytes a))

pub fields_laid : (plan : Bool) (t : Set) (a : Alloc) (from m : ℕ) (o o₁ o₂ o₃ : List ℕ) → PartsLaid t a from m o o₁ o₂ o₃
    → from ≡ 7 + head_length t.head → m ≡ allocations_for plan t.n → fields_length plan t ≤ length o → o₃ ≡ laid o 0 (fields_of plan t a)
fields_laid plan t a from m o o₁ o₂ o₃ parts begun e fit =
    let n = t.n in
    let head = head_bytes t.head in
    let stations = rows n (station_bytes t) in
    let allocations = rows m (allocation_bytes a) in
    let l₁ : length (head_bytes t.head) ≡ 7 + head_length t.head = head_long t.head in
    let l₂ : length (rows t.n (station_bytes t)) ≡ 19 * t.n = stations_length t n in
    let l₃ : length (rows m (allocation_bytes a)) ≡ 7 * m = allocations_length a m in
    let j₁ = length-append head stations in
    let s₂ = laid_more o o₁ o₂ 0 from head stations parts.head (omega arith) parts.stations (omega arith) in
    let s₃ = laid_more o o₂ o₃ 0 (from + 19 * n) (head ++ stations) allocations s₂ (omega arith) parts.allocations (omega arith) in
    rw (← e) s₃

-- ---- answers

pub answer_refused : (k size : ℕ) → k ≢ 0 → write_answer k size ≡ refused_writing k
unfolding write_answer
answer_refused zero size h = absurd (h refl)
answer_refused (suc k) size h = refl

pub answer_accepted : (k size : ℕ) → k ≡ 0 → write_answer k size ≡ record { length = size; number = 0 }
unfolding write_answer
answer_accepted k size h = rw h

pub answer_number : (k size : ℕ) → (write_answer k size).number ≡ k
unfolding write_answer
answer_number zero size = refl
answer_number (suc k) size = refl

pub buffer_refused : (k : ℕ) (sheet out : List ℕ) → k ≢ 0 → buffer_after k sheet out ≡ out
unfolding buffer_after
buffer_refused zero sheet out h = absurd (h refl)
buffer_refused (suc k) sheet out h = refl

pub buffer_accepted : (k : ℕ) (sheet out : List ℕ) → k ≡ 0 → buffer_after k sheet out ≡ sheet ++ drop (length sheet) out
unfolding buffer_after
buffer_accepted k sheet out h = rw h

module _ (plan : Bool) (t : Set) (a : Alloc) (out : List ℕ) where
  -- the number: what was judged, then 14, then 0
  pub number_judged : judged_sheet plan t a ≢ 0 → write_number plan t a (length out) ≡ judged_sheet plan t a
  number_judged h = then_keeps _ _ h

  pub number_short : judged_sheet plan t a ≡ 0 → length out < sheet_length plan t → write_number plan t a (length out) ≡ 14
  number_short e h = then_rest _ _ e ∙ failed _ _ _ (lt-leb _ _ h)

  pub number_none : judged_sheet plan t a ≡ 0 → sheet_length plan t ≤ length out → write_number plan t a (length out) ≡ 0
  number_none e h = then_rest _ _ e ∙ held _ _ _ (le-leb _ _ h)

  -- fields that were not written, with the number k
  pub fields_refused : (k : ℕ) → k ≢ 0 → write_number plan t a (length out) ≡ k → WroteFields plan t a out out (refused_writing k)
  fields_refused k h e =
      record {
        answer = rw e (sym (answer_refused k (fields_length plan t) h));
        buffer = rw e (sym (buffer_refused k (fields_of plan t a) out h));
      }

  -- and fields that were
  pub fields_all : judged_sheet plan t a ≡ 0 → sheet_length plan t ≤ length out
      → WroteFields plan t a out (laid out 0 (fields_of plan t a)) (record { length = fields_length plan t; number = 0 })
  fields_all e h =
      record {
        answer = sym (answer_accepted _ (fields_length plan t) (number_none e h));
        buffer = laid_first out (fields_of plan t a) ∙ sym (buffer_accepted _ (fields_of plan t a) out (number_none e h));
      }

  -- a sheet whose fields were not written is not
  pub wrote_refused : (after : List ℕ) (r : Written) → WroteFields plan t a out after r → r.number ≢ 0 → Wrote plan t a out after r
  wrote_refused after r w h =
      let k = write_number plan t a (length out) in
      let some : write_number plan t a (length out) ≢ 0 = λ z. h (ap (λ (x : Written). x.number) w.answer ∙ answer_number _ _ ∙ z) in
      record {
        answer = w.answer ∙ answer_refused k (fields_length plan t) some ∙ sym (answer_refused k (sheet_length plan t) some);
        buffer = w.buffer ∙ buffer_refused k (fields_of plan t a) out some ∙ sym (buffer_refused k (sheet_of plan t a) out some);
      }

  -- where they were: they stand in the first bytes, and the end fits behind them
  module _ (between : List ℕ) (r : Written) (w : WroteFields plan t a out between r) (z : r.number ≡ 0) where
    fields_none : write_number plan t a (length out) ≡ 0
    fields_none = sym (answer_number _ (fields_length plan t)) ∙ sym (ap (λ (x : Written). x.number) w.answer) ∙ z

    pub fields_fit : sheet_length plan t ≤ length out
    fields_fit = leb-true _ _ (passed _ 14 _ (omega arith) (then_none _ _ fields_none).1).0

    pub fields_end : r.length ≡ fields_length plan t
    fields_end = ap (λ (x : Written). x.length) (w.answer ∙ answer_accepted _ (fields_length plan t) fields_none)

    pub fields_there : between ≡ laid out 0 (fields_of plan t a)
    fields_there = w.buffer ∙ buffer_accepted _ (fields_of plan t a) out fields_none ∙ sym (laid_first out (fields_of plan t a))

    -- a sheet is all of them and the end behind them
    pub wrote_all : (after : List ℕ) → after ≡ laid between r.length end_bytes → Wrote plan t a out after (record { length = r.length + 3; number = 0 })
    unfolding sheet_of
    wrote_all after e =
        let long = fields_long plan t a in
        let fit = fields_fit in
        let all : after ≡ laid out 0 (fields_of plan t a ++ end_bytes) =
        laid_more out between after 0 r.length (fields_of plan t a) end_bytes fields_there (omega (arith, fields_end)) e (omega (arith, fields_end)) in
        let behind : r.length + 3 ≡ sheet_length plan t = omega (arith, fields_end) in
        record {
          answer = ap (λ (k : ℕ). record { length = k; number = 0 }) behind ∙ sym (answer_accepted _ (sheet_length plan t) fields_none);
          buffer = all ∙ laid_first out (sheet_of plan t a) ∙ sym (buffer_accepted _ (sheet_of plan t a) out fields_none);
        }

-- ---- bytes put at a place

module _ (out : List ℕ) (a : ℕ) (bytes : List ℕ) (more : ℕ) where
  -- they do not fit
  pub put_short : length out < a + length bytes + more → PutAt a bytes more out out 14
  unfolding laid_after
  put_short h =
      let e : room_number (a + length bytes + more) (length out) ≡ 14 = failed _ _ _ (lt-leb _ _ h) in
      record { answer = sym e; buffer = rw e refl }

  -- they do
  pub put_there : (after : List ℕ) → a + length bytes + more ≤ length out → after ≡ laid out a bytes → PutAt a bytes more out after 0
  unfolding laid_after
  put_there after h d =
      let e : room_number (a + length bytes + more) (length out) ≡ 0 = held _ _ _ (le-leb _ _ h) in
      record { answer = sym e; buffer = rw e d }
