-- Storing: the bytes of the versions that stay, the field of the new one, the end and zeros are the store of what is kept then.
use Prim.Native.Nat.{ℕ, zero, suc, ◌+◌, ◌-◌, ◌≤◌, ◌<◌}
use mathlib.Core.Path.{◌≡◌, refl, sym, ap, ◌∙◌}
use mathlib.Core.Bool.{true, false}
use mathlib.Core.List.{List, [], ◌∷◌, ◌++◌, append_assoc, append-nil}
use mathlib.Core.Logic.{◌≢◌, ⊎_elim}
use native.Mathlib.Omega.{arith}
use borrow.Author.Tests.{eq-eqb, ne_eqb}
use lib.ListN.{length, take, drop, get_or, length-append, length-drop, get_or-append}
use lib.Seq.{take_at, drop_at, drop-append-add, get_or-drop, get_or-append_seam, get_or-append-add, ext_get_or}
use Rattle.units.specs.Places.{at}
use Rattle.units.proofs.SmallLaws.{below_or_not}
use Rattle.fields.specs.Rows.{rows, laid}
use Rattle.fields.proofs.RowLaws.{rows_step, laid_first}
use Rattle.fields.proofs.HeaderLaws.{same_or_not}
use Rattle.fields.proofs.SegmentLaws.{rows_same}
use Rattle.sheets.specs.Layout.{end_bytes}
use Rattle.versions.specs.Layout.{store_size, most_kept, version_bytes, Kept, count, field_of, zero_bytes, filled_up, store_of}
use Rattle.versions.specs.Area.{is_plan, place_of, end_in, newest_in}
use Rattle.versions.specs.Answers.{is_full, next_place, moved_down, with_room, with_version}
use Rattle.versions.proofs.StoringLaws.{zeros_long, zeros_are}
use Rattle.version_rules.specs.Keeping.{newest, Allowed, with_plan}
use Rattle.version_rules.proofs.FieldLaws.{version_length}
use Rattle.version_rules.proofs.BackLaws.{body_short, places, begun, counted, ended}

-- ---- zeros

pub drop_zeros : (j n : ℕ) → drop j (zero_bytes n) ≡ zero_bytes (n - j)
drop_zeros j n =
    let long : length (drop j (zero_bytes n)) ≡ length (zero_bytes (n - j)) = length-drop j (zero_bytes n) ∙ omega (arith, zeros_long n, zeros_long (n - j)) in
    ext_get_or 0 (drop j (zero_bytes n)) (zero_bytes (n - j)) long (λ i l. get_or-drop j (zero_bytes n) i 0 ∙ zeros_are n (j + i) ∙ sym (zeros_are (n - j) i))

pub zeros_join : (m n : ℕ) → zero_bytes m ++ zero_bytes n ≡ zero_bytes (m + n)
zeros_join m n =
    let long : length (zero_bytes m ++ zero_bytes n) ≡ length (zero_bytes (m + n)) = omega (arith, length-append (zero_bytes m) (zero_bytes n), zeros_long m, zeros_long n, zeros_long (m + n)) in
    ext_get_or 0 (zero_bytes m ++ zero_bytes n) (zero_bytes (m + n)) long
    (λ i l.
    ⊎_elim (λ (b : i < m). get_or-append (zero_bytes m) (zero_bytes n) 0 i (omega (arith, zeros_long m)) ∙ zeros_are m i ∙ sym (zeros_are (m + n) i))
    (λ (b : m ≤ i).
    let e : i ≡ length (zero_bytes m) + (i - m) = omega (arith, zeros_long m) in
    ap (at (zero_bytes m ++ zero_bytes n)) e ∙ get_or-append-add (zero_bytes m) (zero_bytes n) (i - m) 0 ∙ zeros_are n (i - m) ∙ sym (zeros_are (m + n) i))
    (below_or_not i m))

-- ---- a segment laid behind what stays

-- what stays, the segment, and what is left of the rest
pub laid_behind : (r x s : List ℕ) (a : ℕ) → a ≡ length r → laid (r ++ x) a s ≡ r ++ s ++ drop (length s) x
unfolding laid
laid_behind r x s a e =
    let first : take a (r ++ x) ≡ r = take_at r x a (sym e) in
    let rest : drop (a + length s) (r ++ x) ≡ drop (length s) x = rw e (drop-append-add r x (length s)) in
    rw (first, rest) refl

-- ---- the store of what stays and one more

-- where what is left of the rest is zeros
closed : (r x field : List ℕ) (a : ℕ) → a ≡ length r → length r + length x ≡ store_size → drop (length (field ++ end_bytes)) x ≡ zero_bytes (length x - length (field ++ end_bytes))
    → laid (r ++ x) a (field ++ end_bytes) ≡ filled_up (r ++ field ++ end_bytes)
unfolding filled_up
closed r x field a e long zeros =
    let size : store_size - length (r ++ field ++ end_bytes) ≡ length x - length (field ++ end_bytes) =
    omega (arith, length-append (r ++ field) end_bytes, length-append r field, length-append field end_bytes) in
    laid_behind r x (field ++ end_bytes) a e ∙ rw (zeros, ← append_assoc r field end_bytes, size) refl

-- rows with the first one peeled
pub rows_first : (n : ℕ) (f : ℕ → List ℕ) → rows (suc n) f ≡ f 0 ++ rows n (λ k. f (suc k))
unfolding rows
rows_first zero f = sym (append-nil (f 0))
rows_first (suc n) f = ap (λ (s : List ℕ). s ++ f (suc n)) (rows_first n f) ∙ append_assoc (f 0) (rows n (λ k. f (suc k))) (f (suc n))

-- the fields of what is kept with one plan more
more_rows : (b : ℕ) (ss : List (List ℕ)) (sheet : List ℕ)
    → rows (length (ss ++ (sheet ∷ []))) (field_of (record { before = b; sheets = ss ++ (sheet ∷ []) }))
    ≡ rows (length ss) (field_of (record { before = b; sheets = ss })) ++ version_bytes (b + length ss + 1) sheet
more_rows b ss sheet =
    let w : Kept = record { before = b; sheets = ss ++ (sheet ∷ []) } in
    let size : length (ss ++ (sheet ∷ [])) ≡ length ss + 1 = length-append ss (sheet ∷ []) in
    let same = rows_same (length ss) (field_of (record { before = b; sheets = ss ++ (sheet ∷ []) })) (field_of (record { before = b; sheets = ss }))
    (λ k l. ap (version_bytes (b + k + 1)) (get_or-append ss (sheet ∷ []) [] k l)) in
    let last : field_of (record { before = b; sheets = ss ++ (sheet ∷ []) }) (length ss) ≡ version_bytes (b + length ss + 1) sheet = ap (version_bytes (b + length ss + 1)) (get_or-append_seam ss sheet [] []) in
    ap (λ (k : ℕ). rows k (field_of w)) size ∙ rows_step (length ss) (field_of w) ∙ rw (same, last) refl

-- the fields of what is kept, with the oldest one first
fewer_rows : (b : ℕ) (s : List ℕ) (ss : List (List ℕ))
    → rows (suc (length ss)) (field_of (record { before = b; sheets = s ∷ ss })) ≡ field_of (record { before = b; sheets = s ∷ ss }) 0 ++ rows (length ss) (field_of (record { before = b + 1; sheets = ss }))
fewer_rows b s ss =
    rows_first (length ss) (field_of (record { before = b; sheets = s ∷ ss }))
    ∙ ap (λ (r : List ℕ). field_of (record { before = b; sheets = s ∷ ss }) 0 ++ r)
    (rows_same (length ss) (λ k. field_of (record { before = b; sheets = s ∷ ss }) (suc k)) (field_of (record { before = b + 1; sheets = ss }))
    (λ k l. let e : b + suc k + 1 ≡ b + 1 + k + 1 = omega arith in ap (λ (x : ℕ). version_bytes x (get_or ss k [])) e))

-- what stands behind the end, from place j of the new field on
end_zeros : (m j : ℕ) → drop (3 + j) (end_bytes ++ zero_bytes m) ≡ zero_bytes (m - j)
end_zeros m j = drop-append-add end_bytes (zero_bytes m) j ∙ drop_zeros j m

-- the store of fields
store_rows : (w : Kept) (r : List ℕ) → rows (count w) (field_of w) ≡ r → store_of w ≡ filled_up (r ++ end_bytes)
unfolding store_of
store_rows w r e = ap (λ (x : List ℕ). filled_up (x ++ end_bytes)) e

store_split : (w : Kept) → let fields = rows (count w) (field_of w) in store_of w ≡ fields ++ (end_bytes ++ zero_bytes (store_size - length (fields ++ end_bytes)))
unfolding store_of filled_up
store_split w = append_assoc (rows (count w) (field_of w)) end_bytes (zero_bytes (store_size - length (rows (count w) (field_of w) ++ end_bytes)))

pub plan_fewer : (v : Kept) (sheet : List ℕ) → count v ≢ most_kept → with_plan v sheet ≡ record { before = v.before; sheets = v.sheets ++ (sheet ∷ []) }
unfolding with_plan
plan_fewer v sheet o = rw (ne_eqb _ _ o) refl

pub plan_sixteen : (v : Kept) (sheet : List ℕ) → count v ≡ most_kept → with_plan v sheet ≡ record { before = v.before + 1; sheets = drop 1 v.sheets ++ (sheet ∷ []) }
unfolding with_plan
plan_sixteen v sheet e = rw (eq-eqb _ _ e) refl

room_fewer : (bs : List ℕ) → is_full bs ≡ false → (with_room bs ≡ bs) × (next_place bs ≡ end_in bs)
unfolding with_room next_place
room_fewer bs e = (rw e refl, rw e refl)

room_sixteen : (bs : List ℕ) → is_full bs ≡ true → (with_room bs ≡ moved_down bs (place_of bs 1) (end_in bs)) × (next_place bs ≡ end_in bs - place_of bs 1)
unfolding with_room next_place
room_sixteen bs e = (rw e refl, rw e refl)

same_laid : (sheet : List ℕ) {o o' : List ℕ} {b b' n n' : ℕ} → o ≡ o' → b ≡ b' → n ≡ n' → laid o b (version_bytes n sheet ++ end_bytes) ≡ laid o' b' (version_bytes n' sheet ++ end_bytes)
same_laid sheet p q e = rw (p, q, e) refl

store_body : (w : Kept) → let fields = rows (count w) (field_of w) in store_of w ≡ fields ++ end_bytes ++ zero_bytes (store_size - length (fields ++ end_bytes))
unfolding store_of filled_up
store_body w = refl

one_row : (f : ℕ → List ℕ) → rows 1 f ≡ f 0
unfolding rows
one_row f = refl

-- sixteen: the oldest goes
module _ (b : ℕ) (s : List ℕ) (ss : List (List ℕ)) (a : Allowed (record { before = b; sheets = s ∷ ss })) where
  abbrev v : Kept
  v = record { before = b; sheets = s ∷ ss }

  abbrev kept_fields : List ℕ
  kept_fields = rows (suc (length ss)) (field_of (record { before = b; sheets = s ∷ ss }))

  abbrev first : List ℕ
  first = field_of (record { before = b; sheets = s ∷ ss }) 0

  abbrev rest : List ℕ
  rest = rows (length ss) (field_of (record { before = b + 1; sheets = ss }))

  abbrev past : ℕ
  past = store_size - length (kept_fields ++ end_bytes)

  peeled : kept_fields ≡ first ++ rest
  peeled = fewer_rows b s ss

  lengths : length kept_fields ≡ length first + length rest
  lengths = ap length peeled ∙ length-append first rest

  by_first : place_of (store_of v) 1 ≡ length first
  by_first = places v a 1 (omega arith) ∙ ap length (one_row (field_of v))

  end_last : end_in (store_of v) ≡ length kept_fields
  end_last = ended v a

  kept_long : length (kept_fields ++ end_bytes) ≡ length kept_fields + 3
  kept_long = length-append kept_fields end_bytes

  split : store_of v ≡ first ++ (rest ++ (end_bytes ++ zero_bytes past))
  split = store_split v ∙ ap (λ (x : List ℕ). x ++ (end_bytes ++ zero_bytes past)) peeled ∙ append_assoc first rest (end_bytes ++ zero_bytes past)

  -- the versions that stay
  others : take (end_in (store_of v) - place_of (store_of v) 1) (drop (place_of (store_of v) 1) (store_of v)) ≡ rest
  others =
      let long : length rest ≡ end_in (store_of v) - place_of (store_of v) 1 = omega (arith, lengths, by_first, end_last) in
      ap (take (end_in (store_of v) - place_of (store_of v) 1)) (ap (drop (place_of (store_of v) 1)) split ∙ drop_at first (rest ++ (end_bytes ++ zero_bytes past)) _ (sym by_first))
      ∙ take_at rest (end_bytes ++ zero_bytes past) _ long

  moved : moved_down (store_of v) (place_of (store_of v) 1) (end_in (store_of v)) ≡ rest ++ zero_bytes (place_of (store_of v) 1 + 3 + past)
  unfolding moved_down
  moved =
      let by = place_of (store_of v) 1 in
      let long : length (kept_fields ++ end_bytes) ≡ length (rest ++ zero_bytes (place_of (store_of v) 1 + 3)) =
      omega (arith, lengths, by_first, kept_long, length-append rest (zero_bytes (by + 3)), zeros_long (by + 3)) in
      let behind : drop (length (rest ++ zero_bytes (place_of (store_of v) 1 + 3))) (store_of v) ≡ zero_bytes past = ap (drop (length (rest ++ zero_bytes (by + 3)))) (store_body v) ∙ drop_at (kept_fields ++ end_bytes) (zero_bytes past) _ long in
      ap (λ (x : List ℕ). laid (store_of v) 0 (x ++ zero_bytes (by + 3))) others
      ∙ laid_first (store_of v) (rest ++ zero_bytes (by + 3))
      ∙ ap (λ (x : List ℕ). rest ++ zero_bytes (by + 3) ++ x) behind
      ∙ append_assoc rest (zero_bytes (by + 3)) (zero_bytes past)
      ∙ ap (λ (x : List ℕ). rest ++ x) (zeros_join (by + 3) past)

  sixteen : (sheet : List ℕ) → is_plan sheet ≡ true → suc (length ss) ≡ most_kept → with_version (store_of v) sheet ≡ store_of (with_plan v sheet)
  sixteen sheet plan e =
      let room = room_sixteen (store_of v) (eq-eqb _ _ (counted v a ∙ e)) in
      let by = place_of (store_of v) 1 in
      let q = place_of (store_of v) 1 + 3 + past in
      let field = version_bytes (b + 1 + length ss + 1) sheet in
      let short = body_short v a in
      let zeros : drop (length (field ++ end_bytes)) (zero_bytes q) ≡ zero_bytes (length (zero_bytes q) - length (field ++ end_bytes)) =
      drop_zeros (length (field ++ end_bytes)) q ∙ ap (λ (k : ℕ). zero_bytes (k - length (field ++ end_bytes))) (sym (zeros_long q)) in
      same_laid sheet (room.0 ∙ moved) (room.1 ∙ omega (arith, lengths, by_first, end_last)) (omega (arith, begun v a, counted v a))
      ∙ closed rest (zero_bytes q) field (length rest) refl (omega (arith, lengths, by_first, kept_long, zeros_long q)) zeros
      ∙ sym (ap store_of (plan_sixteen v sheet e) ∙ store_rows _ _ (more_rows (b + 1) ss sheet))

full : (b : ℕ) (ss : List (List ℕ)) (a : Allowed (record { before = b; sheets = ss })) (sheet : List ℕ) → is_plan sheet ≡ true → length ss ≡ most_kept
    → with_version (store_of (record { before = b; sheets = ss })) sheet ≡ store_of (with_plan (record { before = b; sheets = ss }) sheet)
full b [] a sheet plan e = absurd (omega arith)
full b (s ∷ ss) a sheet plan e = sixteen b s ss a sheet plan e

-- fewer than sixteen: all stay
module _ (v : Kept) (a : Allowed v) (sheet : List ℕ) (plan : is_plan sheet ≡ true) where
  abbrev bs : List ℕ
  bs = store_of v

  abbrev fields : List ℕ
  fields = rows (count v) (field_of v)

  abbrev m : ℕ
  m = store_size - length (fields ++ end_bytes)

  abbrev field : List ℕ
  field = version_bytes (newest v + 1) sheet

  newest_number : newest_in (store_of v) + 1 ≡ newest v + 1
  newest_number = omega (arith, begun v a, counted v a)

  field_long : length (field ++ end_bytes) ≡ 3 + (7 + length sheet)
  field_long = omega (arith, length-append field end_bytes, version_length (newest v + 1) sheet)

  body_long : length (fields ++ end_bytes) ≡ length fields + 3
  body_long = length-append fields end_bytes

  -- fewer than sixteen
  not_full : count v ≢ most_kept → with_version (store_of v) sheet ≡ store_of (with_plan v sheet)
  not_full o =
      let room = room_fewer bs (ne_eqb _ _ (λ e. o (sym (counted v a) ∙ e))) in
      let size : length (end_bytes ++ zero_bytes m) ≡ 3 + m = omega (arith, length-append end_bytes (zero_bytes m), zeros_long m) in
      let short = body_short v a in
      let left : m - (7 + length sheet) ≡ length (end_bytes ++ zero_bytes m) - length (field ++ end_bytes) = omega (arith, field_long) in
      let zeros : drop (length (field ++ end_bytes)) (end_bytes ++ zero_bytes m) ≡ zero_bytes (length (end_bytes ++ zero_bytes m) - length (field ++ end_bytes)) =
      ap (λ (k : ℕ). drop k (end_bytes ++ zero_bytes m)) field_long ∙ end_zeros m (7 + length sheet) ∙ ap zero_bytes left in
      same_laid sheet (room.0 ∙ store_split v) (room.1 ∙ ended v a) newest_number
      ∙ closed fields (end_bytes ++ zero_bytes m) field (length fields) refl (omega (arith, body_long)) zeros
      ∙ sym (ap store_of (plan_fewer v sheet o) ∙ store_rows _ _ (more_rows v.before v.sheets sheet))

  pub stored_laid : with_version (store_of v) sheet ≡ store_of (with_plan v sheet)
  stored_laid = ⊎_elim (full v.before v.sheets a sheet plan) not_full (same_or_not (count v) most_kept)
