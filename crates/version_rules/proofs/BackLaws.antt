-- What is laid out is a store, and is read back: each field stands behind those before it, so each is found at its place.
use Prim.Native.Nat.{ℕ, zero, suc, ◌+◌, ◌-◌, ◌*◌, ◌≤◌, ◌<◌}
use mathlib.Core.Path.{◌≡◌, refl, sym, ap, ◌∙◌}
use mathlib.Core.Bool.{Bool, true, false, ◌||◌}
use mathlib.Core.List.{List, [], ◌++◌}
use mathlib.Core.Logic.{◌≢◌, ⊎_elim}
use native.Mathlib.Numerals.{add-one}
use native.Mathlib.Nat.{add-zero, zero-add}
use native.Mathlib.Omega.{arith}
use borrow.Author.Tests.{le-leb, eq-eqb}
use lib.Dec.{eqb}
use lib.ListN.{length, take, length-append}
use lib.Seq.{take-suc, take-length, get_or-append-add}
use Rattle.units.specs.Places.{at}
use Rattle.units.proofs.PlaceLaws.{all_of}
use Rattle.units.proofs.JudgingLaws.{true_or_false, true_and}
use Rattle.units.proofs.SmallLaws.{below_or_not}
use Rattle.fields.specs.Rows.{rows}
use Rattle.fields.specs.Bytes.{short_at, number_at}
use Rattle.fields.specs.Fields.{left, size_at}
use Rattle.fields.proofs.SegmentLaws.{Stands, stands_itself, stands_left, stands_right}
use Rattle.sheets.specs.Layout.{end_bytes}
use Rattle.versions.specs.Layout.{store_size, most_kept, Kept, count, number_of, sheet_of, field_of, zero_bytes, filled_up, store_of}
use Rattle.versions.specs.Area.{sheet_at, is_plan, place_of, before_in, kept_at, leading, count_in, end_in, zeros_from, ends_at, none_missing, is_store}
use Rattle.versions.proofs.AreaLaws.{leading_none, leading_more, leading_over, leading_fails, version_here, is_plan_lem, plan_short, place_none, place_next, all_stands}
use Rattle.versions.proofs.StoringLaws.{zeros_long, zeros_are}
use Rattle.version_rules.specs.Keeping.{Allowed, sheets_up_to, kept_in}
use Rattle.version_rules.proofs.FieldLaws.{row_stands, version_length, FieldReads, field_reads, stands_there}

or_first : (a b : Bool) → a ≡ true → (a || b) ≡ true
or_first a b e = rw e refl

or_second : (a b : Bool) → b ≡ true → (a || b) ≡ true
or_second true b e = refl
or_second false b e = e

-- ---- tests that lead

module _ (f : ℕ → Bool) where
  all_lead : (n : ℕ) → ((k : ℕ) → k < n → f k ≡ true) → leading n f ≡ n
  all_lead zero h = leading_none f
  all_lead (suc n) h = rw (add-one n) at (leading_more f n (all_lead n (λ k l. h k (omega arith))) (h n (omega arith)))

  -- n lead, and no more: the next one fails, or there is none
  pub leads : (n more : ℕ) → ((k : ℕ) → k < n → f k ≡ true) → (more ≢ 0 → f n ≡ false) → leading (n + more) f ≡ n
  leads n zero h stop = rw add-zero (all_lead n h)
  leads n (suc zero) h stop = leading_fails f n (stop (omega arith)) ∙ all_lead n h
  leads n (suc (suc more)) h stop =
      let before : leading (n + suc more) f ≡ n = leads n (suc more) h (λ o. stop (omega arith)) in
      let e : n + suc (suc more) ≡ n + suc more + 1 = omega arith in
      rw e (leading_over f (n + suc more) (omega arith) ∙ before)

-- ---- the bytes of a store

module _ (v : Kept) (a : Allowed v) where
  abbrev bs : List ℕ
  bs = store_of v

  abbrev n : ℕ
  n = count v

  abbrev fields : List ℕ
  fields = rows (count v) (field_of v)

  pub plan_at : (k : ℕ) → k < count v → is_plan (sheet_of v k) ≡ true
  plan_at k l = is_plan_lem (sheet_of v k) (a.plans k l)

  -- each field has at most 3,363 bytes
  rows_short : (k : ℕ) → k ≤ count v → length (rows k (field_of v)) ≤ 3_363 * k
  unfolding rows
  rows_short zero l = omega arith
  rows_short (suc k) l =
      omega (arith, rows_short k (omega arith), length-append (rows k (field_of v)) (field_of v k), version_length (number_of v k) (sheet_of v k), plan_short (sheet_of v k) (plan_at k (omega arith)))

  pub body_short : length (fields ++ end_bytes) ≤ 53_811
  body_short = omega (arith, length-append fields end_bytes, rows_short (count v) (omega arith), a.few)

  pub store_long : length (store_of v) ≡ store_size
  unfolding store_of filled_up
  store_long = omega (arith, length-append (fields ++ end_bytes) (zero_bytes (store_size - length (fields ++ end_bytes))), zeros_long (store_size - length (fields ++ end_bytes)), body_short)

  body_stands : Stands (store_of v) 0 (fields ++ end_bytes)
  unfolding store_of filled_up
  body_stands = stands_left bs 0 (fields ++ end_bytes) (zero_bytes (store_size - length (fields ++ end_bytes))) (stands_itself bs)

  fields_stand : Stands (store_of v) 0 fields
  fields_stand = stands_left bs 0 fields end_bytes body_stands

  end_stands : Stands (store_of v) (length fields) end_bytes
  end_stands = rw zero-add at (stands_right bs 0 fields end_bytes body_stands)

  -- zeros behind them
  past_zero : (i : ℕ) → length fields + 3 + i < store_size → at (store_of v) (length fields + 3 + i) ≡ 0
  unfolding store_of filled_up
  past_zero i l =
      let e : length fields + 3 + i ≡ length (fields ++ end_bytes) + i = omega (arith, length-append fields end_bytes) in
      rw e (get_or-append-add (fields ++ end_bytes) (zero_bytes (store_size - length (fields ++ end_bytes))) i 0 ∙ zeros_are _ i)

  -- version k is read behind those before it
  reads : (k : ℕ) → k < count v → FieldReads (store_of v) (length (rows k (field_of v))) (number_of v k) (sheet_of v k)
  reads k l =
      field_reads bs (length (rows k (field_of v))) (number_of v k) (sheet_of v k) (omega (arith, a.numbered)) (omega (arith, plan_short (sheet_of v k) (plan_at k l))) (row_stands bs (count v) (field_of v) fields_stand k l)

  pub places : (k : ℕ) → k ≤ count v → place_of (store_of v) k ≡ length (rows k (field_of v))
  unfolding rows
  places zero l = place_none bs
  places (suc k) l =
      let here = places k (omega arith) in
      let size : size_at (store_of v) (place_of (store_of v) k) ≡ 4 + length (sheet_of v k) = rw here (reads k (omega arith)).size in
      omega (arith, place_next bs k, ap (place_of bs) (add-one k), length-append (rows k (field_of v)) (field_of v k), version_length (number_of v k) (sheet_of v k))

  -- how many numbers were given before
  none_before : count v ≡ 0 → v.before ≡ 0
  none_before e = ⊎_elim (λ (z : v.before ≡ 0). z) (λ (f : count v ≡ most_kept). absurd (omega arith)) a.none_missing_lem

  first_number_lem : number_at (store_of v) 3 - 1 ≡ v.before
  unfolding number_at rows
  first_number_lem =
      ⊎_elim (λ (z : count v < 1).
      let none : length fields ≡ 0 = omega (arith, rows_short (count v) (omega arith)) in
      let zero_at : (i : ℕ) → i < 4 → at (store_of v) (3 + i) ≡ 0 = λ i l. (ap (λ (k : ℕ). at (store_of v) (k + 3 + i)) (sym none) ∙ past_zero i (omega arith)) in
      let z₀ = zero_at 0 (omega arith) in
      let z₁ = zero_at 1 (omega arith) in
      let z₂ = zero_at 2 (omega arith) in
      let z₃ = zero_at 3 (omega arith) in
      omega (arith, none_before (omega arith)))
      (λ (some : 1 ≤ count v). omega (arith, (reads 0 some).numbered))
      (below_or_not (count v) 1)

  pub begun : before_in (store_of v) ≡ v.before
  begun = first_number_lem

  -- each version is counted
  kept_there : (k : ℕ) → k < count v → kept_at (store_of v) k ≡ true
  kept_there k l = rw (places k (omega arith), begun) (stands_there bs _ _ (sheet_of v k) (reads k l) (plan_at k l))

  -- and the end is none
  end_tag_lem : at (store_of v) (length fields) ≡ 255
  end_tag_lem = rw add-zero at (end_stands.same 0 (omega arith))

  kept_ends : kept_at (store_of v) (count v) ≡ false
  kept_ends =
      ⊎_elim (λ (e : kept_at (store_of v) (count v) ≡ true).
      absurd (omega (arith, (version_here bs _ _ e).field.tag, ap (at bs) (places (count v) (omega arith)), end_tag_lem)))
      (λ (e : kept_at (store_of v) (count v) ≡ false). e)
      (true_or_false (kept_at (store_of v) (count v)))

  pub counted : count_in (store_of v) ≡ count v
  counted =
      let few = a.few in
      let all : count v + (most_kept - count v) ≡ most_kept = omega arith in
      rw all at (leads (kept_at (store_of v)) (count v) (most_kept - count v) kept_there (λ o. kept_ends))

  pub ended : end_in (store_of v) ≡ length fields
  ended = ap (place_of bs) counted ∙ places (count v) (omega arith)

  ends : ends_at (store_of v) (length fields) ≡ true
  unfolding ends_at zeros_from short_at
  ends =
      let place = length fields in
      let short = length-append fields end_bytes in
      let some : 3 ≤ left (store_of v) (length fields) = omega (arith, store_long, body_short) in
      let next : length fields + 1 + 1 ≡ length fields + 2 = omega arith in
      let s₁ : at (store_of v) (length fields + 1) ≡ 0 = end_stands.same 1 (omega arith) in
      let s₂ : at (store_of v) (length fields + 1 + 1) ≡ 0 = ap (at (store_of v)) next ∙ end_stands.same 2 (omega arith) in
      let size : at (store_of v) (length fields + 1) * 256 + at (store_of v) (length fields + 1 + 1) ≡ 0 = omega arith in
      let zeros = all_of (left (store_of v) (length fields + 3)) (λ i. eqb (at (store_of v) (length fields + 3 + i)) 0) (λ i l. eq-eqb _ _ (past_zero i (omega (arith, store_long)))) in
      true_and _ _ (le-leb 3 _ some) (true_and _ _ (true_and _ _ (eq-eqb _ _ end_tag_lem) (eq-eqb _ _ size)) zeros)

  complete : none_missing (store_of v) ≡ true
  complete =
      ⊎_elim (λ (z : v.before ≡ 0). or_first (eqb (before_in bs) 0) (eqb (count_in bs) most_kept) (eq-eqb _ _ (begun ∙ z))) (λ (f : count v ≡ most_kept). or_second (eqb (before_in bs) 0) (eqb (count_in bs) most_kept) (eq-eqb _ _ (counted ∙ f))) a.none_missing_lem

  pub laid_store : is_store (store_of v) ≡ true
  laid_store = all_stands bs store_long complete (ap (ends_at bs) ended ∙ ends)

  -- ---- read back

  sheets_back : (k : ℕ) → k ≤ count v → sheets_up_to (store_of v) k ≡ take k v.sheets
  unfolding sheets_up_to
  sheets_back zero l = refl
  sheets_back (suc k) l =
      let plan : sheet_at (store_of v) (place_of (store_of v) k) ≡ sheet_of v k = ap (sheet_at bs) (places k (omega arith)) ∙ (reads k (omega arith)).plan in
      rw (sheets_back k (omega arith), plan) (sym (take-suc v.sheets k [] (omega arith)))

  pub kept_back : kept_in (store_of v) ≡ v
  kept_back = rw (begun, counted, sheets_back (count v) (omega arith), take-length v.sheets) refl
