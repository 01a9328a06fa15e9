-- Storing: its numbers, what it leaves, and the numbers that a run of plans is given.
use Prim.Native.Nat.{ℕ, zero, suc, ◌+◌, ◌≤◌, ◌<◌}
use mathlib.Core.Path.{◌≡◌, refl, ap, ◌∙◌}
use mathlib.Core.Bool.{true, false}
use mathlib.Core.List.{List, [], ◌∷◌}
use mathlib.Core.Logic.{◌↔◌, ◌≢◌, ⊎_elim}
use native.Mathlib.Omega.{arith}
use borrow.Author.Tests.{lt-ltb, le-ltb, ltb-true, eq-eqb, ne_eqb}
use lib.Dec.{ltb}
use lib.ListN.{length}
use Rattle.units.specs.Places.{at}
use Rattle.units.proofs.JudgingLaws.{held, failed, passed, true_or_false}
use Rattle.fields.specs.Bytes.{AllBytes}
use Rattle.fields.proofs.HeaderLaws.{same_or_not}
use Rattle.sheets.specs.Reading.{read_plan}
use Rattle.sheets.proofs.ReadLaws.{then_rest, then_keeps, then_none}
use Rattle.versions.specs.Layout.{last_version, Kept, store_of}
use Rattle.versions.specs.Area.{newest_in, is_store, area_number}
use Rattle.versions.specs.Answers.{with_version, store_number, store_answer, stored_answer, area_after, stored_area}
use Rattle.versions.specs.declared.StoredPlan.{StoredPlan}
use Rattle.versions.proofs.AreaLaws.{is_plan_lem}
use Rattle.version_rules.specs.Keeping.{newest, Allowed, with_plan, kept_in}
use Rattle.version_rules.specs.Runs.{given}
use Rattle.version_rules.proofs.BackLaws.{begun, counted}
use Rattle.version_rules.proofs.AgainLaws.{kept_count, kept_allowed, kept_again}
use Rattle.version_rules.proofs.StoredLaws.{stored_laid}
use Rattle.version_rules.proofs.KeepingLaws.{newest_more, more_allowed}

module _ (bs sheet : List ℕ) where
  -- 0 exactly if
  pub store_zero : (store_number bs sheet ≡ 0) ↔ ((is_store bs ≡ true) × (((read_plan sheet).number ≡ 0) × (newest_in bs < last_version)))
  store_zero = (
    λ z.
        let w = then_none (area_number bs) _ z in
        let u = then_none (read_plan sheet).number _ w.1 in
        let t = passed (ltb (newest_in bs) last_version) 18 0 (omega arith) u.1 in
        ((passed (is_store bs) 2 0 (omega arith) w.0).0, (u.0, ltb-true _ _ t.0)),
    λ h. then_rest _ _ (held _ _ _ h.0) ∙ then_rest _ _ h.1.0 ∙ held _ _ _ (lt-ltb _ _ h.1.1),
  )

  pub store_two : is_store bs ≡ false → store_number bs sheet ≡ 2
  store_two e = let k : area_number bs ≡ 2 = failed _ _ _ e in then_keeps _ _ (λ z. absurd (omega (arith, k, z))) ∙ k

  pub store_sheet : is_store bs ≡ true → (read_plan sheet).number ≢ 0 → store_number bs sheet ≡ (read_plan sheet).number
  store_sheet e o = then_rest _ _ (held _ _ _ e) ∙ then_keeps _ _ o

  pub store_used : is_store bs ≡ true → (read_plan sheet).number ≡ 0 → newest_in bs ≡ last_version → store_number bs sheet ≡ 18
  store_used e r n =
      let last : last_version ≤ newest_in bs = omega arith in
      then_rest _ _ (held _ _ _ e) ∙ then_rest _ _ r ∙ failed _ _ _ (le-ltb _ _ last)

  -- accepted
  pub area_next : store_number bs sheet ≡ 0 → stored_area bs sheet ≡ with_version bs sheet
  unfolding area_after
  area_next z = rw z refl

  pub one_more_lem : store_number bs sheet ≡ 0 → stored_answer bs sheet ≡ record { version = newest_in bs + 1; number = 0 }
  unfolding store_answer
  one_more_lem z = rw z refl

  -- refused
  pub store_refused : store_number bs sheet ≢ 0 → (stored_area bs sheet ≡ bs) × (stored_answer bs sheet ≡ record { version = 0; number = store_number bs sheet })
  unfolding area_after store_answer
  store_refused o = go (store_number bs sheet) o
    where
      go : (k : ℕ) → k ≢ 0 → (area_after k (with_version bs sheet) bs ≡ bs) × (store_answer k (newest_in bs + 1) ≡ record { version = 0; number = k })
      go zero n = absurd (n refl)
      go (suc k) n = (refl, refl)

-- ---- a store that is laid out, with one plan more

pub newest_laid : (v : Kept) → Allowed v → newest_in (store_of v) ≡ newest v
newest_laid v a = omega (arith, begun v a, counted v a)

module _ (v : Kept) (a : Allowed v) (sheet : List ℕ) (z : store_number (store_of v) sheet ≡ 0) where
  pub next_area : stored_area (store_of v) sheet ≡ store_of (with_plan v sheet)
  next_area = area_next (store_of v) sheet z ∙ stored_laid v a sheet (is_plan_lem sheet ((store_zero (store_of v) sheet).0 z).1.0)

  pub next_allowed : Allowed (with_plan v sheet)
  next_allowed =
      let w = (store_zero (store_of v) sheet).0 z in
      more_allowed v a sheet w.1.0 (omega (arith, newest_laid v a, w.1.1))

  pub next_newest : newest (with_plan v sheet) ≡ newest v + 1
  next_newest = newest_more v a sheet ((store_zero (store_of v) sheet).0 z).1.0

-- ---- the numbers of a run

pub given_none : (bs : List ℕ) → given bs [] ≡ []
unfolding given
given_none bs = refl

given_more : (bs sheet : List ℕ) (sheets : List (List ℕ)) → store_number bs sheet ≡ 0 → given bs (sheet ∷ sheets) ≡ (newest_in bs + 1) ∷ given (stored_area bs sheet) sheets
unfolding given
given_more bs sheet sheets z = rw (eq-eqb (store_number bs sheet) 0 z) (ap (λ (n : ℕ). n ∷ given (stored_area bs sheet) sheets) (ap (λ (x : StoredPlan). x.version) (one_more_lem bs sheet z)))

pub given_same : (bs sheet : List ℕ) (sheets : List (List ℕ)) → store_number bs sheet ≢ 0 → given bs (sheet ∷ sheets) ≡ given bs sheets
unfolding given
given_same bs sheet sheets o = rw (ne_eqb (store_number bs sheet) 0 o) (ap (λ (b : List ℕ). given b sheets) (store_refused bs sheet o).0)

-- the same of a store that is laid out
pub given_next : (v : Kept) → Allowed v → (sheet : List ℕ) → store_number (store_of v) sheet ≡ 0 → (sheets : List (List ℕ))
    → given (store_of v) (sheet ∷ sheets) ≡ (newest_in (store_of v) + 1) ∷ given (store_of (with_plan v sheet)) sheets
given_next v a sheet z sheets = given_more (store_of v) sheet sheets z ∙ ap (λ (b : List ℕ). (newest_in (store_of v) + 1) ∷ given b sheets) (next_area v a sheet z)

-- the i-th number that is given is the newest and i + 1
pub rising_laid : (v : Kept) → Allowed v → (sheets : List (List ℕ)) (i : ℕ) → i < length (given (store_of v) sheets) → at (given (store_of v) sheets) i ≡ newest v + 1 + i
rising_laid v a [] i l = absurd (omega (arith, ap length (given_none (store_of v))))
rising_laid v a (sheet ∷ sheets) i l =
    ⊎_elim (λ (z : store_number (store_of v) sheet ≡ 0).
    let next = given_next v a sheet z sheets in
    ap (λ (xs : List ℕ). at xs i) next ∙ go z (λ j b. rising_laid (with_plan v sheet) (next_allowed v a sheet z) sheets j b) i (omega (arith, ap length next)))
    (λ (o : store_number (store_of v) sheet ≢ 0).
    let same = given_same (store_of v) sheet sheets o in
    ap (λ (xs : List ℕ). at xs i) same ∙ rising_laid v a sheets i (omega (arith, ap length same)))
    (same_or_not (store_number (store_of v) sheet) 0)
  where
    go : store_number (store_of v) sheet ≡ 0
        → ((j : ℕ) → j < length (given (store_of (with_plan v sheet)) sheets) → at (given (store_of (with_plan v sheet)) sheets) j ≡ newest (with_plan v sheet) + 1 + j)
        → (i : ℕ) → i < suc (length (given (store_of (with_plan v sheet)) sheets)) → at ((newest_in (store_of v) + 1) ∷ given (store_of (with_plan v sheet)) sheets) i ≡ newest v + 1 + i
    go z rest zero b = omega (arith, newest_laid v a)
    go z rest (suc i) b = rest i (omega arith) ∙ omega (arith, next_newest v a sheet z)

-- of any area: one that is no store gives no number
none_given : (bs : List ℕ) → is_store bs ≡ false → (sheets : List (List ℕ)) → given bs sheets ≡ []
none_given bs e [] = given_none bs
none_given bs e (sheet ∷ sheets) = given_same bs sheet sheets (λ z. absurd (omega (arith, store_two bs sheet e, z))) ∙ none_given bs e sheets

module _ (bs : List ℕ) (bytes : AllBytes bs) (sheets : List (List ℕ)) where
  pub rising : (i : ℕ) → i < length (given bs sheets) → at (given bs sheets) i ≡ newest_in bs + 1 + i
  rising i l =
      ⊎_elim (λ (e : is_store bs ≡ true).
      let again = kept_again bs bytes e in
      let size = kept_count bs bytes e in
      let long : i < length (given (store_of (kept_in bs)) sheets) = rw again l in
      rw again at (rising_laid (kept_in bs) (kept_allowed bs bytes e) sheets i long) ∙ omega arith)
      (λ (e : is_store bs ≡ false). absurd (omega (arith, ap length (none_given bs e sheets))))
      (true_or_false (is_store bs))

  pub never_twice : (i j : ℕ) → i < j → j < length (given bs sheets) → at (given bs sheets) i < at (given bs sheets) j
  never_twice i j b l = omega (arith, rising i (omega arith), rising j l)
