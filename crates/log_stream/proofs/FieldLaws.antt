-- One field of a log, read byte after byte from its first byte on: what is kept behind it, and what was handed out.
use Prim.Native.Nat.{ℕ, zero, suc, ◌+◌, ◌*◌, ◌-◌, ◌≤◌, ◌<◌}
use mathlib.Core.Path.{◌≡◌, refl, sym, ap, ◌∙◌}
use mathlib.Core.Bool.{Bool, true, false, cond}
use mathlib.Core.List.{List, [], ◌∷◌, ◌++◌, append_assoc, append-nil}
use mathlib.Core.Logic.{◌≢◌, ⊎_elim}
use native.Mathlib.Omega.{arith}
use borrow.Author.Tests.{eq-eqb, ne_eqb, lt-leb}
use lib.Dec.{leb, eqb}
use lib.ListN.{length, take, drop, set, replicate, length-append, length-replicate, take-append-drop}
use lib.Seq.{length-take-le}
use Rattle.units.specs.Judging.{or_else}
use Rattle.units.proofs.JudgingLaws.{true_or_false}
use Rattle.units.specs.Places.{at}
use Rattle.fields.specs.Bytes.{short_at}
use Rattle.fields.specs.Fields.{size_at}
use Rattle.sheets.specs.Reading.{then_number}
use Rattle.log_records.specs.Entry.{next_entry}
use Rattle.log_records.specs.declared.Entry.{Entry}
use Rattle.logs.specs.Records.{is_record, record_size}
use Rattle.logs.specs.Walked.{is_end}
use Rattle.logs.proofs.RecordLaws.{handed_out_lem}
use Rattle.log_stream.specs.Pieces.{nothing_read, at_field, with_byte, faulty, end_passed, told, stepped, number_of, entry_in, entries_of, read_over, handed_over}
use Rattle.log_stream.specs.declared.Gathered.{Gathered}
use Rattle.log_stream.proofs.GatheredLaws.{long_some, size_said, size_some, entry_same}
use Rattle.log_stream.proofs.StepLaws.{step_stopped, step_ended, step_on, at_whole, at_part, at_first}

-- ---- pieces

pub read_append : (v : Gathered) (first rest : List ℕ) → read_over v (first ++ rest) ≡ read_over (read_over v first) rest
unfolding read_over
read_append v [] rest = refl
read_append v (b ∷ first) rest = read_append (stepped v b) first rest

pub handed_append : (v : Gathered) (first rest : List ℕ) → handed_over v (first ++ rest) ≡ handed_over v first ++ handed_over (read_over v first) rest
unfolding read_over handed_over
handed_append v [] rest = refl
handed_append v (b ∷ first) rest =
    rw (handed_append (stepped v b) first rest)
    (sym (append_assoc (entries_of (entry_in (stepped v b))) (handed_over (stepped v b) first) (handed_over (read_over (stepped v b) first) rest)))

-- ---- the bytes of a field so far

abbrev pub partial : List ℕ → Gathered
partial xs = record { bytes = xs ++ replicate (20 - length xs) 0; count = length xs; ended = false; number = 0 }

set_next : (xs : List ℕ) (m b : ℕ) → set (xs ++ replicate (suc m) 0) (length xs) b ≡ (xs ++ b ∷ []) ++ replicate m 0
set_next [] m b = refl
set_next (x ∷ xs) m b = ap (λ (rest : List ℕ). x ∷ rest) (set_next xs m b)

byte_more : (xs : List ℕ) (b : ℕ) → length xs < 20 → with_byte (partial xs) b ≡ partial (xs ++ b ∷ [])
byte_more xs b l =
    let m : 20 - length xs ≡ suc (19 - length xs) = omega arith in
    let more : length (xs ++ b ∷ []) ≡ length xs + 1 = length-append xs (b ∷ []) in
    let left : 20 - (length xs + 1) ≡ 19 - length xs = omega arith in
    let bytes : set (xs ++ replicate (20 - length xs) 0) (length xs) b ≡ (xs ++ b ∷ []) ++ replicate (19 - length xs) 0 =
    ap (λ (k : ℕ). set (xs ++ replicate k 0) (length xs) b) m ∙ set_next xs (19 - length xs) b in
    rw (bytes, more, left) refl

told_on : (v : Gathered) → v.count ≢ 3 → told v ≡ v
unfolding told
told_on v k = rw (ne_eqb v.count 3 k)

step_partial : (xs : List ℕ) (b : ℕ) → at_field (partial xs) ≡ partial xs → length xs < 20 → stepped (partial xs) b ≡ told (partial (xs ++ b ∷ []))
step_partial xs b on l = sym (step_on (partial xs) b refl refl) ∙ ap (λ (v : Gathered). told (with_byte v b)) on ∙ ap told (byte_more xs b l)

step_inside : (xs : List ℕ) (b : ℕ) → at_field (partial xs) ≡ partial xs → length xs < 20 → length xs ≢ 2 → stepped (partial xs) b ≡ partial (xs ++ b ∷ [])
step_inside xs b on l k = step_partial xs b on l ∙ told_on (partial (xs ++ b ∷ [])) (λ e. k (omega (arith, length-append xs (b ∷ []))))

-- ---- nothing is handed out before the last byte

no_entry_in : (v : Gathered) → v.count ≢ record_size v.bytes 0 → entries_of (entry_in v) ≡ []
unfolding entry_in entries_of
no_entry_in v k = rw (ne_eqb v.count (record_size v.bytes 0) k) refl

-- up to three bytes are no whole record
few_bytes : (v : Gathered) → 1 ≤ v.count → v.count ≤ 3 → v.count ≢ record_size v.bytes 0
few_bytes v some few e = omega (arith, size_some v.bytes 0 (λ z. omega arith))

-- ---- the first three bytes

told_count : (v : Gathered) → (told v).count ≡ v.count
unfolding told
told_count v =
    ⊎_elim (λ (e : eqb v.count 3 ≡ true). rw e (inner (is_record v.bytes 0) (is_end v.bytes 0))) (λ (e : eqb v.count 3 ≡ false). rw e refl) (true_or_false (eqb v.count 3))
  where
    inner : (a b : Bool) → (cond a v (cond b (end_passed v) (faulty v 2))).count ≡ v.count
    inner true b = refl
    inner false true = refl
    inner false false = refl

module _ (x y z : ℕ) (rest : List ℕ) where
  first_byte : stepped nothing_read x ≡ partial (x ∷ [])
  first_byte = step_inside [] x at_first (omega arith) (λ e. omega arith)

  second_byte : stepped (partial (x ∷ [])) y ≡ partial (x ∷ y ∷ [])
  second_byte = step_inside (x ∷ []) y (at_part (partial (x ∷ [])) (omega arith) (few_bytes (partial (x ∷ [])) (omega arith) (omega arith))) (omega arith) (λ e. omega arith)

  third_byte : stepped (partial (x ∷ y ∷ [])) z ≡ told (partial (x ∷ y ∷ z ∷ []))
  third_byte = step_partial (x ∷ y ∷ []) z (at_part (partial (x ∷ y ∷ [])) (omega arith) (few_bytes (partial (x ∷ y ∷ [])) (omega arith) (omega arith))) (omega arith)

  begun_read : read_over nothing_read (x ∷ y ∷ z ∷ rest) ≡ read_over (told (partial (x ∷ y ∷ z ∷ []))) rest
  unfolding read_over
  begun_read =
      ap (λ (v : Gathered). read_over (stepped (stepped v y) z) rest) first_byte
      ∙ ap (λ (v : Gathered). read_over (stepped v z) rest) second_byte
      ∙ ap (λ (v : Gathered). read_over v rest) third_byte

  first_none : entries_of (entry_in (partial (x ∷ []))) ≡ []
  first_none = no_entry_in (partial (x ∷ [])) (few_bytes (partial (x ∷ [])) (omega arith) (omega arith))

  second_none : entries_of (entry_in (partial (x ∷ y ∷ []))) ≡ []
  second_none = no_entry_in (partial (x ∷ y ∷ [])) (few_bytes (partial (x ∷ y ∷ [])) (omega arith) (omega arith))

  begun_handed : handed_over nothing_read (x ∷ y ∷ z ∷ rest) ≡ handed_over (told (partial (x ∷ y ∷ z ∷ []))) rest
  unfolding handed_over
  begun_handed =
      let third = told (partial (x ∷ y ∷ z ∷ [])) in
      let counted = told_count (partial (x ∷ y ∷ z ∷ [])) in
      ap (λ (v : Gathered). entries_of (entry_in v) ++ handed_over v (y ∷ z ∷ rest)) first_byte
      ∙ ap (λ (es : List Entry). es ++ handed_over (partial (x ∷ [])) (y ∷ z ∷ rest)) first_none
      ∙ ap (λ (v : Gathered). entries_of (entry_in v) ++ handed_over v (z ∷ rest)) second_byte
      ∙ ap (λ (es : List Entry). es ++ handed_over (partial (x ∷ y ∷ [])) (z ∷ rest)) second_none
      ∙ ap (λ (v : Gathered). entries_of (entry_in v) ++ handed_over v rest) third_byte
      ∙ ap (λ (es : List Entry). es ++ handed_over third rest) (no_entry_in third (few_bytes third (omega arith) (omega arith)))

-- ---- a fault stays, and hands out nothing

pub read_stopped : (v : Gathered) (bs : List ℕ) → v.number ≢ 0 → read_over v bs ≡ v
unfolding read_over
read_stopped v [] k = refl
read_stopped v (b ∷ bs) k = ap (λ (w : Gathered). read_over w bs) (sym (step_stopped v b k)) ∙ read_stopped v bs k

handed_stopped : (v : Gathered) (bs : List ℕ) → v.number ≢ 0 → v.count ≢ record_size v.bytes 0 → handed_over v bs ≡ []
unfolding handed_over
handed_stopped v [] k n = refl
handed_stopped v (b ∷ bs) k n =
    ap (λ (w : Gathered). entries_of (entry_in w) ++ handed_over w bs) (sym (step_stopped v b k))
    ∙ ap (λ (es : List Entry). es ++ handed_over v bs) (no_entry_in v n)
    ∙ handed_stopped v bs k n

-- ---- the field at the start of the bytes, by what it is

-- read to the end, these bytes give this number, and these entries are handed out
pub record Reads (zs : List ℕ) (number : ℕ) (es : List Entry) : Type 0 where
  pub ends : number_of (read_over nothing_read zs) ≡ number
  pub hands : handed_over nothing_read zs ≡ es

pub short : (zs : List ℕ) → length zs < 3 → Reads zs 1 []
unfolding read_over handed_over then_number
short [] l = record { ends = refl; hands = refl }
short (x ∷ []) l =
    record {
      ends = ap number_of (first_byte x 0 0 []);
      hands = append-nil _ ∙ ap (λ (v : Gathered). entries_of (entry_in v)) (first_byte x 0 0 []) ∙ first_none x 0 0 [];
    }
short (x ∷ y ∷ []) l =
    let both : stepped (stepped nothing_read x) y ≡ partial (x ∷ y ∷ []) = ap (λ (v : Gathered). stepped v y) (first_byte x y 0 []) ∙ second_byte x y 0 [] in
    record {
      ends = ap number_of both;
      hands =
          ap (λ (v : Gathered). entries_of (entry_in v) ++ handed_over v (y ∷ [])) (first_byte x y 0 [])
          ∙ ap (λ (es : List Entry). es ++ handed_over (partial (x ∷ [])) (y ∷ [])) (first_none x y 0 [])
          ∙ append-nil _ ∙ ap (λ (v : Gathered). entries_of (entry_in v)) (second_byte x y 0 []) ∙ second_none x y 0 [];
    }
short (x ∷ y ∷ z ∷ zs) l = absurd (omega arith)

module _ (x y z : ℕ) (rest : List ℕ) where
  start : Gathered
  start = partial (x ∷ y ∷ z ∷ [])

  -- the three bytes alone tell the same as all of them
  told_record : is_record (x ∷ y ∷ z ∷ rest) 0 ≡ true → told start ≡ start
  unfolding told short_at start
  told_record v = rw v refl

  told_end : is_record (x ∷ y ∷ z ∷ rest) 0 ≡ false → is_end (x ∷ y ∷ z ∷ rest) 0 ≡ true → told start ≡ end_passed start
  unfolding told short_at start
  told_end v e = rw (v, e) refl

  told_other : is_record (x ∷ y ∷ z ∷ rest) 0 ≡ false → is_end (x ∷ y ∷ z ∷ rest) 0 ≡ false → told start ≡ faulty start 2
  unfolding told short_at start
  told_other v e = rw (v, e) refl

  -- a field that may not stand there: 2
  pub other_read : is_record (x ∷ y ∷ z ∷ rest) 0 ≡ false → is_end (x ∷ y ∷ z ∷ rest) 0 ≡ false → Reads (x ∷ y ∷ z ∷ rest) 2 []
  unfolding then_number start
  other_read v e =
      let stops : (faulty start 2).number ≢ 0 = λ k. omega arith in
      record {
        ends = ap number_of (begun_read x y z rest ∙ ap (λ (w : Gathered). read_over w rest) (told_other v e) ∙ read_stopped (faulty start 2) rest stops);
        hands =
            begun_handed x y z rest ∙ ap (λ (w : Gathered). handed_over w rest) (told_other v e)
            ∙ handed_stopped (faulty start 2) rest stops (few_bytes (faulty start 2) (omega arith) (omega arith));
      }

-- the end, with nothing behind it or with a byte: 0 or 3
pub end_read : (x y z : ℕ) (rest : List ℕ) → is_record (x ∷ y ∷ z ∷ rest) 0 ≡ false → is_end (x ∷ y ∷ z ∷ rest) 0 ≡ true → Reads (x ∷ y ∷ z ∷ rest) (or_else (leb (length (x ∷ y ∷ z ∷ rest)) 3) 3 0) []
unfolding then_number read_over handed_over start or_else
end_read x y z [] v e =
    record {
      ends = ap number_of (begun_read x y z [] ∙ told_end x y z [] v e);
      hands = begun_handed x y z [];
    }
end_read x y z (b ∷ rest) v e =
    let w = end_passed (partial (x ∷ y ∷ z ∷ [])) in
    let runs : stepped (end_passed (partial (x ∷ y ∷ z ∷ []))) b ≡ faulty (end_passed (partial (x ∷ y ∷ z ∷ []))) 3 = sym (step_ended w b refl refl) in
    let stops : (faulty (end_passed (partial (x ∷ y ∷ z ∷ []))) 3).number ≢ 0 = λ k. omega arith in
    let none = few_bytes (faulty w 3) (omega arith) (omega arith) in
    let long : leb (length (x ∷ y ∷ z ∷ b ∷ rest)) 3 ≡ false = lt-leb (length (x ∷ y ∷ z ∷ b ∷ rest)) 3 (omega arith) in
    record {
      ends =
          ap number_of
          (begun_read x y z (b ∷ rest) ∙ ap (λ (u : Gathered). read_over u (b ∷ rest)) (told_end x y z (b ∷ rest) v e)
          ∙ ap (λ (u : Gathered). read_over u rest) runs ∙ read_stopped (faulty w 3) rest stops)
          ∙ rw long refl;
      hands =
          begun_handed x y z (b ∷ rest) ∙ ap (λ (u : Gathered). handed_over u (b ∷ rest)) (told_end x y z (b ∷ rest) v e)
          ∙ ap (λ (u : Gathered). entries_of (entry_in u) ++ handed_over u rest) runs
          ∙ ap (λ (es : List Entry). es ++ handed_over (faulty w 3) rest) (no_entry_in (faulty w 3) none)
          ∙ handed_stopped (faulty w 3) rest stops none;
    }

-- ---- a record: three bytes that say how long its body is, and the body

-- the length of the body in the second and the third byte
unfoldable pub body_size : ℕ → ℕ → ℕ
body_size y z = y * 256 + z

pub body_is : (x y z : ℕ) (rest : List ℕ) → size_at (x ∷ y ∷ z ∷ rest) 0 ≡ body_size y z
unfolding body_size short_at
body_is x y z rest = refl

-- what the three bytes say does not hang on those behind them
pub same_start : (x y z : ℕ) (rest other : List ℕ) → is_record (x ∷ y ∷ z ∷ rest) 0 ≡ true → is_record (x ∷ y ∷ z ∷ other) 0 ≡ true
unfolding short_at
same_start x y z rest other is = is

body_said : (x y z : ℕ) (rest : List ℕ) → is_record (x ∷ y ∷ z ∷ rest) 0 ≡ true → (1 ≤ body_size y z) × (body_size y z ≤ 17)
body_said x y z rest is = rw (← body_is x y z rest) (long_some (x ∷ y ∷ z ∷ rest) 0 is)

record_size_lem : (x y z : ℕ) (rest : List ℕ) → is_record (x ∷ y ∷ z ∷ rest) 0 ≡ true → body_size y z ≤ length rest → record_size (x ∷ y ∷ z ∷ rest) 0 ≡ 3 + body_size y z
record_size_lem x y z rest is inside =
    let said = body_is x y z rest in
    size_said (x ∷ y ∷ z ∷ rest) 0 is (omega arith) ∙ ap (λ (n : ℕ). 3 + n) said

module _ (x y z : ℕ) (is : is_record (x ∷ y ∷ z ∷ []) 0 ≡ true) where
  -- the field with so much of its body
  abbrev field : List ℕ → List ℕ
  field body = x ∷ y ∷ z ∷ body

  -- the bytes that were gathered say how long it is
  gathered_size : (body : List ℕ) → length body ≤ 17 → record_size (partial (field body)).bytes 0 ≡ 3 + body_size y z
  gathered_size body l =
      let zeros : List ℕ = replicate (20 - length (field body)) 0 in
      let long = length-append body (replicate {A = ℕ} (20 - length (field body)) 0) in
      let many = length-replicate {A = ℕ} (20 - length (field body)) 0 in
      record_size_lem x y z (body ++ zeros) (same_start x y z [] (body ++ zeros) is) (omega (arith, (body_said x y z [] is).1))

  -- it is not whole before its last byte
  not_whole : (body : List ℕ) → length body < body_size y z → length (field body) ≢ record_size (partial (field body)).bytes 0
  not_whole body l e = let most = (body_said x y z [] is).1 in omega (arith, gathered_size body (omega arith))

  inside : (body : List ℕ) (b : ℕ) → length body < body_size y z → stepped (partial (field body)) b ≡ partial (field (body ++ b ∷ []))
  inside body b l =
      let most = (body_said x y z [] is).1 in
      step_inside (field body) b (at_part (partial (field body)) (omega arith) (not_whole body l)) (omega arith) (λ e. omega arith)

  read_body : (body ys : List ℕ) → length body + length ys ≤ body_size y z → read_over (partial (field body)) ys ≡ partial (field (body ++ ys))
  unfolding read_over
  read_body body [] few = ap (λ (b : List ℕ). partial (field b)) (sym (append-nil body))
  read_body body (b ∷ ys) few =
      let long = length-append body (b ∷ []) in
      ap (λ (v : Gathered). read_over v ys) (inside body b (omega arith))
      ∙ read_body (body ++ b ∷ []) ys (omega arith)
      ∙ ap (λ (c : List ℕ). partial (field c)) (append_assoc body (b ∷ []) ys)

  handed_body : (body ys : List ℕ) → length body < body_size y z → length body + length ys ≤ body_size y z → handed_over (partial (field body)) ys ≡ entries_of (entry_in (partial (field (body ++ ys))))
  unfolding handed_over
  handed_body body [] below few = sym (rw (append-nil body) (no_entry_in (partial (field body)) (not_whole body below)))
  handed_body body (b ∷ []) below few = append-nil _ ∙ ap (λ (v : Gathered). entries_of (entry_in v)) (inside body b below)
  handed_body body (b ∷ d ∷ ys) below few =
      let long = length-append body (b ∷ []) in
      let more = body ++ b ∷ [] in
      ap (λ (v : Gathered). entries_of (entry_in v) ++ handed_over v (d ∷ ys)) (inside body b below)
      ∙ ap (λ (es : List Entry). es ++ handed_over (partial (field more)) (d ∷ ys)) (no_entry_in (partial (field more)) (not_whole more (omega arith)))
      ∙ handed_body more (d ∷ ys) (omega arith) (omega arith)
      ∙ ap (λ (c : List ℕ). entries_of (entry_in (partial (field c)))) (append_assoc body (b ∷ []) (d ∷ ys))

  -- one that is cut short: 1
  pub cut_read : (rest : List ℕ) → length rest < body_size y z → Reads (field rest) 1 []
  unfolding then_number start
  cut_read rest l =
      let here = same_start x y z [] rest is in
      let some = (body_said x y z [] is).0 in
      record {
        ends = ap number_of (begun_read x y z rest ∙ ap (λ (w : Gathered). read_over w rest) (told_record x y z rest here) ∙ read_body [] rest (omega arith));
        hands =
            begun_handed x y z rest ∙ ap (λ (w : Gathered). handed_over w rest) (told_record x y z rest here) ∙ handed_body [] rest (omega arith) (omega arith)
            ∙ no_entry_in (partial (field rest)) (not_whole rest l);
      }

  -- ---- behind a whole one the reading is as at the start

  module _ (body : List ℕ) (all : length body ≡ body_size y z) where
    whole_size : record_size (partial (field body)).bytes 0 ≡ 3 + body_size y z
    whole_size = gathered_size body (omega (arith, (body_said x y z [] is).1))

    next_field : (b : ℕ) → stepped (partial (field body)) b ≡ stepped nothing_read b
    next_field b =
        let at_end = at_whole (partial (field body)) (omega (arith, whole_size)) in
        sym (step_on (partial (field body)) b refl refl) ∙ ap (λ (v : Gathered). told (with_byte v b)) (at_end ∙ sym at_first) ∙ step_on nothing_read b refl refl

    after_whole : (ys : List ℕ) (number : ℕ) (es : List Entry) → Reads ys number es
        → (number_of (read_over (partial (field body)) ys) ≡ number) × (handed_over (partial (field body)) ys ≡ es)
    unfolding read_over handed_over then_number
    after_whole [] number es r = (r.ends, r.hands)
    after_whole (b ∷ ys) number es r = (
      ap (λ (v : Gathered). number_of (read_over v ys)) (next_field b) ∙ r.ends,
      ap (λ (v : Gathered). entries_of (entry_in v) ++ handed_over v ys) (next_field b) ∙ r.hands,
    )

    -- its entry is handed out
    whole_handed : entries_of (entry_in (partial (field body))) ≡ (next_entry (partial (field body)).bytes 0).entry ∷ []
    unfolding entry_in entries_of
    whole_handed =
        let bytes = (partial (field body)).bytes in
        let next = (handed_out_lem bytes 0 (λ z. omega (arith, whole_size))).next in
        rw (eq-eqb (length (field body)) (record_size bytes 0) (omega (arith, whole_size)), ne_eqb (next_entry bytes 0).next 0 (λ z. omega (arith, whole_size))) refl

-- the same bytes before others
before_others : (xs ys zs : List ℕ) (i : ℕ) → i < length xs → at (xs ++ ys) i ≡ at (xs ++ zs) i
before_others [] ys zs i l = absurd (omega arith)
before_others (x ∷ xs) ys zs zero l = refl
before_others (x ∷ xs) ys zs (suc i) l = before_others xs ys zs i (omega arith)

-- a whole record, and what is read behind it
pub record_read : (x y z : ℕ) (rest : List ℕ) (number : ℕ) (es : List Entry) → is_record (x ∷ y ∷ z ∷ rest) 0 ≡ true → body_size y z ≤ length rest
    → Reads (drop (body_size y z) rest) number es → Reads (x ∷ y ∷ z ∷ rest) number ((next_entry (x ∷ y ∷ z ∷ rest) 0).entry ∷ es)
unfolding start
record_read x y z rest number es v l behind =
    let n = body_size y z in
    let is = same_start x y z rest [] v in
    let some = (body_said x y z rest v).0 in
    let m = x ∷ y ∷ z ∷ [] in
    let body = take n rest in
    let last = drop n rest in
    let full = x ∷ y ∷ z ∷ take (body_size y z) rest in
    let long : length (take (body_size y z) rest) ≡ body_size y z = length-take-le n rest l in
    let parts : take (body_size y z) rest ++ drop (body_size y z) rest ≡ rest = take-append-drop n rest in
    let size = whole_size x y z is body long in
    let filled = read_body x y z is [] body (omega arith) in
    let same : (next_entry (partial full).bytes 0).entry ≡ (next_entry (x ∷ y ∷ z ∷ rest) 0).entry =
    entry_same (partial full).bytes (x ∷ y ∷ z ∷ rest) 0 0 (size ∙ sym (record_size_lem x y z rest v l))
    (λ i below. before_others full (replicate (20 - length full) 0) last (0 + i) (omega (arith, size)) ∙ ap (λ (bs : List ℕ). at (x ∷ y ∷ z ∷ bs) (0 + i)) parts) in
    let handed = handed_body x y z is [] body (omega arith) (omega arith) ∙ whole_handed x y z is body long ∙ ap (λ (e : Entry). e ∷ []) same in
    let then = after_whole x y z is body long last number es behind in
    record {
      ends =
          ap number_of
          (begun_read x y z rest ∙ ap (λ (w : Gathered). read_over w rest) (told_record x y z rest v)
          ∙ ap (read_over (partial m)) (sym parts) ∙ read_append (partial m) body last
          ∙ ap (λ (w : Gathered). read_over w last) filled)
          ∙ then.0;
      hands =
          begun_handed x y z rest ∙ ap (λ (w : Gathered). handed_over w rest) (told_record x y z rest v)
          ∙ ap (handed_over (partial m)) (sym parts) ∙ handed_append (partial m) body last
          ∙ ap (λ (w : Gathered). handed_over (partial m) body ++ handed_over w last) filled
          ∙ ap (λ (u : List Entry). u ++ handed_over (partial full) last) handed
          ∙ ap (λ (u : List Entry). (next_entry (x ∷ y ∷ z ∷ rest) 0).entry ∷ u) then.1;
    }
