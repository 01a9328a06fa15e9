-- What is read is laid out again: the fields that are read stand one behind the other, then the end and zeros, and these are all the bytes.
use Prim.Native.Nat.{ℕ, zero, suc, ◌+◌, ◌-◌, ◌≤◌, ◌<◌}
use mathlib.Core.Path.{◌≡◌, refl, sym, ap, ◌∙◌}
use mathlib.Core.Bool.{true, ◌&&◌}
use mathlib.Core.List.{List, [], ◌∷◌, ◌++◌}
use mathlib.Core.Logic.{inl, inr, ⊎_elim}
use native.Mathlib.Numerals.{add-one}
use native.Mathlib.Omega.{arith}
use borrow.Author.Tests.{leb-true, eqb-true}
use lib.Dec.{leb, eqb}
use lib.ListN.{length, get_or, length-append, get_or-append}
use lib.Seq.{get_or-append_seam}
use Rattle.units.specs.Places.{at}
use Rattle.units.proofs.PlaceLaws.{all_at}
use Rattle.units.proofs.JudgingLaws.{and-true}
use Rattle.units.proofs.SmallLaws.{below_or_not}
use Rattle.fields.specs.Rows.{rows}
use Rattle.fields.specs.Bytes.{short_at, AllBytes}
use Rattle.fields.specs.Fields.{end_tag, end_size, left, tag_at, size_at}
use Rattle.fields.proofs.SegmentLaws.{Stands, stands_join, stands_whole}
use Rattle.fields.proofs.ByteLaws.{stands_three}
use Rattle.sheets.specs.Reading.{read_plan}
use Rattle.sheets.specs.Layout.{end_bytes}
use Rattle.versions.specs.Layout.{store_size, most_kept, Kept, count, field_of, number_of, sheet_of, zero_bytes, filled_up, store_of}
use Rattle.versions.specs.Area.{sheet_at, is_plan, place_of, before_in, kept_at, count_in, end_in, zeros_from, ends_at, is_store}
use Rattle.versions.proofs.AreaLaws.{or_some, leading_most, kept_here, sheet_length_lem, place_none, place_next, newest_small, StoreHere, store_here}
use Rattle.versions.proofs.StoringLaws.{zeros_long, zeros_are}
use Rattle.version_rules.specs.Keeping.{Allowed, sheets_up_to, kept_in}
use Rattle.version_rules.proofs.FieldLaws.{version_length, version_bytes_lem}

-- ---- the sheets that are read

pub sheets_count : (bs : List ℕ) (n : ℕ) → length (sheets_up_to bs n) ≡ n
unfolding sheets_up_to
sheets_count bs zero = refl
sheets_count bs (suc n) = omega (arith, length-append (sheets_up_to bs n) (sheet_at bs (place_of bs n) ∷ []), sheets_count bs n)

pub sheet_read : (bs : List ℕ) (n k : ℕ) → k < n → get_or (sheets_up_to bs n) k [] ≡ sheet_at bs (place_of bs k)
unfolding sheets_up_to
sheet_read bs zero k l = absurd (omega arith)
sheet_read bs (suc n) k l =
    ⊎_elim (λ (b : k < n). get_or-append (sheets_up_to bs n) (sheet_at bs (place_of bs n) ∷ []) [] k (omega (arith, sheets_count bs n)) ∙ sheet_read bs n k b)
    (λ (b : n ≤ k).
    let e : k ≡ length (sheets_up_to bs n) = omega (arith, sheets_count bs n) in
    let d : n ≡ k = omega arith in
    ap (λ (i : ℕ). get_or (sheets_up_to bs n ++ (sheet_at bs (place_of bs n) ∷ [])) i []) e ∙ get_or-append_seam (sheets_up_to bs n) (sheet_at bs (place_of bs n)) [] [] ∙ ap (λ (i : ℕ). sheet_at bs (place_of bs i)) d)
    (below_or_not k n)

is_read_lem : (sheet : List ℕ) → is_plan sheet ≡ true → (read_plan sheet).number ≡ 0
unfolding is_plan
is_read_lem sheet h = eqb-true _ _ h

module _ (bs : List ℕ) (bytes : AllBytes bs) (store : is_store bs ≡ true) where
  abbrev v : Kept
  v = kept_in bs

  here : StoreHere bs
  here = store_here bs store

  pub kept_count : count (kept_in bs) ≡ count_in bs
  kept_count = sheets_count bs (count_in bs)

  few : count_in bs ≤ most_kept
  few = leading_most (kept_at bs) most_kept

  -- ---- what is read is allowed

  pub kept_allowed : Allowed (kept_in bs)
  kept_allowed =
      record {
        few = omega (arith, kept_count, few);
        none_missing_lem =
            ⊎_elim (λ (e : eqb (before_in bs) 0 ≡ true). inl (eqb-true _ _ e)) (λ (e : eqb (count_in bs) most_kept ≡ true). inr (kept_count ∙ eqb-true _ _ e))
            (or_some (eqb (before_in bs) 0) (eqb (count_in bs) most_kept) here.none_missing_lem);
        numbered = omega (arith, kept_count, newest_small bs bytes (omega (arith, here.long)));
        plans = λ k l.
            let b : k < count_in bs = omega (arith, kept_count) in
            is_read_lem _ (ap is_plan (sheet_read bs (count_in bs) k b) ∙ (kept_here bs most_kept k b).plan);
      }

  -- ---- and laid out again

  field_at : (k : ℕ) → k < count_in bs → Stands bs (place_of bs k) (field_of (kept_in bs) k)
  field_at k l = rw (sheet_read bs (count_in bs) k l) (version_bytes_lem bs (place_of bs k) (before_in bs + k + 1) bytes (kept_here bs most_kept k l))

  rows_there : (k : ℕ) → k ≤ count_in bs → Stands bs 0 (rows k (field_of (kept_in bs))) × (length (rows k (field_of (kept_in bs))) ≡ place_of bs k)
  unfolding rows
  rows_there zero l = (record { fits = omega arith; same = λ i b. absurd (omega arith) }, sym (place_none bs))
  rows_there (suc k) l =
      let before = rows_there k (omega arith) in
      let f = field_of (kept_in bs) in
      let field = (kept_here bs most_kept k (omega arith)).field in
      let place : 0 + length (rows k (field_of (kept_in bs))) ≡ place_of bs k = omega (arith, before.1) in
      let sheet : length (sheet_of (kept_in bs) k) ≡ size_at bs (place_of bs k) - 4 = ap length (sheet_read bs (count_in bs) k (omega arith)) ∙ sheet_length_lem bs (place_of bs k) field in (
        stands_join bs 0 (rows k f) (f k) before.0 (rw place (field_at k (omega arith))),
        omega (arith, length-append (rows k f) (f k), before.1, version_length (number_of (kept_in bs) k) (sheet_of (kept_in bs) k), sheet, field.some, place_next bs k, ap (place_of bs) (add-one k)),
      )

  -- the end and the zeros behind them
  end_facts : (3 ≤ left bs (end_in bs)) × ((tag_at bs (end_in bs) ≡ end_tag) × ((size_at bs (end_in bs) ≡ end_size) × (zeros_from bs (end_in bs + 3) ≡ true)))
  unfolding ends_at
  end_facts =
      let w = and-true (leb 3 (left bs (end_in bs))) _ here.ended in
      let u = and-true (eqb (tag_at bs (end_in bs)) end_tag && eqb (size_at bs (end_in bs)) end_size) _ w.1 in
      let t = and-true (eqb (tag_at bs (end_in bs)) end_tag) _ u.0 in
      (leb-true 3 (left bs (end_in bs)) w.0, (eqb-true _ _ t.0, (eqb-true _ _ t.1, u.1)))

  end_there : Stands bs (end_in bs) end_bytes
  unfolding short_at
  end_there =
      let inside = end_facts.0 in
      let size = end_facts.1.1.0 in
      let next : end_in bs + 1 + 1 ≡ end_in bs + 2 = omega arith in
      let s₂ : at bs (end_in bs + 1 + 1) ≡ 0 = omega arith in
      stands_three bs (end_in bs) 255 0 0 (omega arith) end_facts.1.0 (omega arith) (ap (at bs) (sym next) ∙ s₂)

  zeros_there : (n : ℕ) → end_in bs + 3 + n ≤ length bs → Stands bs (end_in bs + 3) (zero_bytes n)
  unfolding zeros_from
  zeros_there n fits =
      let zeros = end_facts.1.1.1 in
      record {
        fits = omega (arith, zeros_long n);
        same = λ i l. eqb-true _ _ (all_at (left bs (end_in bs + 3)) (λ j. eqb (at bs (end_in bs + 3 + j)) 0) zeros i (omega (arith, zeros_long n))) ∙ sym (zeros_are n i);
      }

  pub kept_again : store_of (kept_in bs) ≡ bs
  unfolding store_of filled_up
  kept_again =
      let f = field_of (kept_in bs) in
      let fields = rows (count (kept_in bs)) (field_of (kept_in bs)) in
      let there = rows_there (count_in bs) (omega arith) in
      let stand : Stands bs 0 (rows (count (kept_in bs)) (field_of (kept_in bs))) = rw kept_count there.0 in
      let long : length (rows (count (kept_in bs)) (field_of (kept_in bs))) ≡ end_in bs = ap (λ (k : ℕ). length (rows k f)) kept_count ∙ there.1 in
      let place : 0 + length (rows (count (kept_in bs)) (field_of (kept_in bs))) ≡ end_in bs = omega arith in
      let body : Stands bs 0 (rows (count (kept_in bs)) (field_of (kept_in bs)) ++ end_bytes) = stands_join bs 0 fields end_bytes stand (rw place end_there) in
      let short = end_facts.0 in
      let size : length (rows (count (kept_in bs)) (field_of (kept_in bs)) ++ end_bytes) ≡ end_in bs + 3 = omega (arith, length-append fields end_bytes) in
      let behind : 0 + length (rows (count (kept_in bs)) (field_of (kept_in bs)) ++ end_bytes) ≡ end_in bs + 3 = omega arith in
      let rest = store_size - length (fields ++ end_bytes) in
      let all = here.long in
      let zeros : Stands bs (end_in bs + 3) (zero_bytes (store_size - length (rows (count (kept_in bs)) (field_of (kept_in bs)) ++ end_bytes))) = zeros_there rest (omega arith) in
      sym (stands_whole bs (fields ++ end_bytes ++ zero_bytes rest) (stands_join bs 0 (fields ++ end_bytes) (zero_bytes rest) body (rw behind zeros))
      (omega (arith, length-append (fields ++ end_bytes) (zero_bytes rest), zeros_long rest)))
