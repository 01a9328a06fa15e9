-- The laws of areas: what a version that stands says, how far the versions go, and what judging answers.
use Prim.Native.Nat.{ℕ, zero, suc, ◌+◌, ◌-◌, ◌*◌, ◌^◌, ◌≤◌, ◌<◌}
use mathlib.Core.Path.{◌≡◌, refl, sym, ap, ◌∙◌}
use mathlib.Core.Bool.{Bool, true, false, not, ◌&&◌, ◌||◌, true≢false}
use mathlib.Core.List.{List}
use mathlib.Core.Logic.{◌⊎◌, inl, inr, ◌≢◌, ⊎_elim}
use native.Mathlib.Numerals.{add-one}
use native.Mathlib.Omega.{arith}
use borrow.Author.Tests.{leb-true, eqb-true, eq-eqb, ne_eqb, le-leb, lt-leb}
use lib.Dec.{leb, eqb}
use lib.ListN.{length, length-take, length-drop}
use Rattle.units.proofs.JudgingLaws.{true_or_false, and-true}
use Rattle.units.proofs.SmallLaws.{below_or_not}
use Rattle.fields.specs.Bytes.{number_at, AllBytes}
use Rattle.fields.specs.Fields.{end_tag, end_size, left, tag_at, size_at}
use Rattle.field_reader.proofs.PassedLaws.{scanned_ended}
use Rattle.sheets.specs.Reading.{read_sheet, read_plan, number_or_zero, set_in, alloc_in}
use Rattle.sheets.proofs.ReadLaws.{then_none, read_number_lem}
use Rattle.sheets.proofs.FirstLaws.{walked_through, plan_stops}
use Rattle.versions.specs.Layout.{store_size, most_kept, version_tag}
use Rattle.versions.specs.Area.{version_fits, sheet_at, is_plan, version_stands, place_of, before_in, kept_at, leading, count_in, end_in, newest_in, zeros_from, ends_at, none_missing, is_store}
use Rattle.versions.specs.Bounds.{walked_to, TurnOf}
use Rattle.versions.specs.declared.VersionsWalked.{VersionsWalked}

-- ---- two tests

pub and_first : (a b : Bool) → a ≡ false → (a && b) ≡ false
and_first a b e = rw e refl

pub and_second : (a b : Bool) → b ≡ false → (a && b) ≡ false
and_second true b e = e
and_second false b e = refl

pub or_none_lem : (a b : Bool) → (a || b) ≡ false → (a ≡ false) × (b ≡ false)
or_none_lem true b h = absurd (true≢false h)
or_none_lem false b h = (refl, h)

pub or_some : (a b : Bool) → (a || b) ≡ true → (a ≡ true) ⊎ (b ≡ true)
or_some true b h = inl refl
or_some false b h = inr h

-- ---- tests that lead

module _ (f : ℕ → Bool) where
  pub leading_none : leading 0 f ≡ 0
  unfolding leading
  leading_none = refl

  -- one more
  pub leading_more : (n : ℕ) → leading n f ≡ n → f n ≡ true → leading (n + 1) f ≡ n + 1
  unfolding leading
  leading_more n e h = rw (add-one, eq-eqb (leading n f) n e, h) refl

  -- once one has failed, no more
  pub leading_over : (n : ℕ) → leading n f ≢ n → leading (n + 1) f ≡ leading n f
  unfolding leading
  leading_over n o = rw (add-one, ne_eqb (leading n f) n o) refl

  pub leading_fails : (n : ℕ) → f n ≡ false → leading (n + 1) f ≡ leading n f
  unfolding leading
  leading_fails n h = rw (add-one, and_second (eqb (leading n f) n) (f n) h) refl

  -- what a step says
  step_cases : (n : ℕ) → ((leading n f ≡ n) × ((f n ≡ true) × (leading (suc n) f ≡ suc n))) ⊎ (leading (suc n) f ≡ leading n f)
  unfolding leading
  step_cases n =
      ⊎_elim (λ (e : (eqb (leading n f) n && f n) ≡ true).
      let w = and-true (eqb (leading n f) n) (f n) e in
      inl (eqb-true (leading n f) n w.0, (w.1, rw e refl)))
      (λ (e : (eqb (leading n f) n && f n) ≡ false). inr (rw e refl))
      (true_or_false (eqb (leading n f) n && f n))

  pub leading_most : (n : ℕ) → leading n f ≤ n
  leading_most zero = omega (arith, leading_none)
  leading_most (suc n) =
      ⊎_elim (λ w. omega (arith, w.1.1)) (λ (e : leading (suc n) f ≡ leading n f). omega (arith, leading_most n)) (step_cases n)

  -- those that are counted hold
  pub leading_holds : (n i : ℕ) → i < leading n f → f i ≡ true
  leading_holds zero i l = absurd (omega (arith, leading_none))
  leading_holds (suc n) i l =
      ⊎_elim (λ w.
      ⊎_elim (λ (b : i < n). leading_holds n i (omega (arith, w.0)))
      (λ (b : n ≤ i). let e : i ≡ n = omega (arith, w.1.1) in ap f e ∙ w.1.0)
      (below_or_not i n))
      (λ (e : leading (suc n) f ≡ leading n f). leading_holds n i (omega arith))
      (step_cases n)

-- ---- a version that stands

-- a whole field
pub record FieldHere (bs : List ℕ) (a : ℕ) : Type 0 where
  pub start : a + 7 ≤ length bs
  pub tag : tag_at bs a ≡ version_tag
  pub some : 4 ≤ size_at bs a
  pub inside : a + 3 + size_at bs a ≤ length bs

pub field_here : (bs : List ℕ) (a : ℕ) → version_fits bs a ≡ true → FieldHere bs a
unfolding version_fits
field_here bs a h =
    let w = and-true (leb 7 (left bs a)) _ h in
    let v = and-true (eqb (tag_at bs a) version_tag && leb 4 (size_at bs a)) _ w.1 in
    let u = and-true (eqb (tag_at bs a) version_tag) _ v.0 in
    let l₀ = leb-true 7 (left bs a) w.0 in
    let l₁ = leb-true 4 (size_at bs a) u.1 in
    let l₂ = leb-true (size_at bs a + 3) (left bs a) v.1 in
    record { start = omega arith; tag = eqb-true _ _ u.0; some = l₁; inside = omega arith }

-- a version, its number and its plan
pub record VersionHere (bs : List ℕ) (a number : ℕ) : Type 0 where
  pub field : FieldHere bs a
  pub numbered : number_at bs (a + 3) ≡ number
  pub plan : is_plan (sheet_at bs a) ≡ true

pub version_here : (bs : List ℕ) (a number : ℕ) → version_stands bs a number ≡ true → VersionHere bs a number
unfolding version_stands
version_here bs a number h =
    let w = and-true (version_fits bs a) _ h in
    let v = and-true (eqb (number_at bs (a + 3)) number) _ w.1 in
    record { field = field_here bs a w.0; numbered = eqb-true _ _ v.0; plan = v.1 }

-- version k of those that are counted
pub kept_here : (bs : List ℕ) (n k : ℕ) → k < leading n (kept_at bs) → VersionHere bs (place_of bs k) (before_in bs + k + 1)
kept_here bs n k l = version_here bs _ _ (leading_holds (kept_at bs) n k l)

-- the number of a version is read where four bytes are left
pub number_there : (bs : List ℕ) (a : ℕ) → a + 4 ≤ length bs → number_or_zero bs a ≡ number_at bs a
unfolding number_or_zero
number_there bs a fit =
    let l : 4 ≤ left bs a = omega arith in
    rw (le-leb 4 _ l) refl

-- ---- how long plans are, and how far versions go

-- a plan that is accepted has at most 3,356 bytes
pub plan_short : (sheet : List ℕ) → is_plan sheet ≡ true → length sheet ≤ 3_356
unfolding is_plan read_sheet
plan_short sheet h =
    let number : (read_plan sheet).number ≡ 0 = eqb-true _ _ h in
    let none = (then_none _ _ (sym (read_number_lem _ (set_in true sheet) (alloc_in true sheet)) ∙ number)).0 in
    omega (arith, (scanned_ended true sheet none).last, (walked_through true sheet).place, plan_stops sheet)

-- what is read with 0 is accepted
pub is_plan_lem : (sheet : List ℕ) → (read_plan sheet).number ≡ 0 → is_plan sheet ≡ true
unfolding is_plan
is_plan_lem sheet e = eq-eqb _ _ e

pub sheet_length_lem : (bs : List ℕ) (a : ℕ) → FieldHere bs a → length (sheet_at bs a) ≡ size_at bs a - 4
sheet_length_lem bs a h =
    let inside = h.inside in
    let some = h.some in
    simp (length-take, length-drop) (omega arith)

-- so a version's field has at most 3,363
pub size_short : (bs : List ℕ) (a number : ℕ) → VersionHere bs a number → size_at bs a ≤ 3_360
size_short bs a number h = omega (arith, sheet_length_lem bs a h.field, plan_short (sheet_at bs a) h.plan, h.field.some)

pub place_none : (bs : List ℕ) → place_of bs 0 ≡ 0
unfolding place_of
place_none bs = refl

pub place_next : (bs : List ℕ) (k : ℕ) → place_of bs (k + 1) ≡ place_of bs k + 3 + size_at bs (place_of bs k)
unfolding place_of
place_next bs k = ap (place_of bs) (add-one k)

-- the versions that are counted end inside the bytes, each in at most 3,363
pub places_short : (bs : List ℕ) (n k : ℕ) → k ≤ leading n (kept_at bs) → place_of bs k ≤ 3_363 * k
places_short bs n zero l = omega (arith, place_none bs)
places_short bs n (suc k) l =
    let here = kept_here bs n k (omega arith) in
    omega (arith, places_short bs n k (omega arith), size_short bs _ _ here, place_next bs k, ap (place_of bs) (add-one k))

pub places_inside : (bs : List ℕ) (n k : ℕ) → k ≤ leading n (kept_at bs) → place_of bs k ≤ length bs
places_inside bs n zero l = omega (arith, place_none bs)
places_inside bs n (suc k) l =
    let here = kept_here bs n k (omega arith) in
    omega (arith, here.field.inside, place_next bs k, ap (place_of bs) (add-one k))

-- ---- the newest number is one of 32 bits

pub number_small : (bs : List ℕ) (a : ℕ) → AllBytes bs → a + 4 ≤ length bs → number_at bs a < 2 ^ 32
unfolding number_at
number_small bs a bytes fit =
    let b₀ = bytes a (omega arith) in
    let b₁ = bytes (a + 1) (omega arith) in
    let b₂ = bytes (a + 2) (omega arith) in
    let b₃ = bytes (a + 3) (omega arith) in
    omega arith

pub newest_small : (bs : List ℕ) → AllBytes bs → 7 ≤ length bs → newest_in bs < 2 ^ 32
newest_small bs bytes fit =
    ⊎_elim (λ (z : count_in bs < 1). omega (arith, number_small bs 3 bytes (omega arith)))
    (λ (some : 1 ≤ count_in bs).
    let here = kept_here bs most_kept (count_in bs - 1) (omega arith) in
    let there = place_of bs (count_in bs - 1) in
    omega (arith, here.numbered, number_small bs (there + 3) bytes (omega (arith, here.field.start))))
    (below_or_not (count_in bs) 1)

-- ---- the tests of a version, one after another

module _ (bs : List ℕ) (a : ℕ) where
  pub fits_short : left bs a < 7 → version_fits bs a ≡ false
  unfolding version_fits
  fits_short l = rw (lt-leb 7 _ l) refl

  pub fits_tests : 7 ≤ left bs a → version_fits bs a ≡ (eqb (tag_at bs a) version_tag && leb 4 (size_at bs a) && leb (size_at bs a + 3) (left bs a))
  unfolding version_fits
  fits_tests l = rw (le-leb 7 _ l) refl

  module _ (number : ℕ) where
    pub stands_not : version_fits bs a ≡ false → version_stands bs a number ≡ false
    unfolding version_stands
    stands_not e = rw e refl

    pub stands_other : version_fits bs a ≡ true → number_at bs (a + 3) ≢ number → version_stands bs a number ≡ false
    unfolding version_stands
    stands_other e o = rw (e, ne_eqb _ _ o) refl

    pub stands_plan : version_fits bs a ≡ true → number_at bs (a + 3) ≡ number → version_stands bs a number ≡ is_plan (sheet_at bs a)
    unfolding version_stands
    stands_plan e n = rw (e, eq-eqb _ _ n) refl

-- ---- a turn of the walk

module _ {bs : List ℕ} {before : ℕ} {w : VersionsWalked} {k : ℕ} (t : TurnOf bs before w k) where
  counted : w.count ≡ leading k (kept_at bs)
  counted = ap (λ (x : VersionsWalked). x.count) t.so_far

  same_walk : leading (k + 1) (kept_at bs) ≡ leading k (kept_at bs) → w ≡ walked_to bs (k + 1)
  same_walk e = t.so_far ∙ ap (λ (n : ℕ). record { count = n; at = place_of bs n }) (sym e)

  -- a version before this one does not stand
  pub turn_over : w.count ≢ k → w ≡ walked_to bs (k + 1)
  turn_over o = same_walk (leading_over (kept_at bs) k (λ e. o (counted ∙ e)))

  module _ (all : w.count ≡ k) where
    all_lead : leading k (kept_at bs) ≡ k
    all_lead = sym counted ∙ all

    pub turn_place : w.at ≡ place_of bs k
    turn_place = ap (λ (x : VersionsWalked). x.at) t.so_far ∙ ap (place_of bs) all_lead

    this : (b : Bool) → version_stands bs w.at (before + k + 1) ≡ b → kept_at bs k ≡ b
    this b e = rw (turn_place, t.begun) at e

    -- this one does not
    pub turn_fails : version_stands bs w.at (before + k + 1) ≡ false → w ≡ walked_to bs (k + 1)
    turn_fails e = same_walk (leading_fails (kept_at bs) k (this false e))

    -- it does
    pub turn_more : version_stands bs w.at (before + k + 1) ≡ true → record { count = k + 1; at = w.at + 3 + size_at bs w.at } ≡ walked_to bs (k + 1)
    turn_more e =
        let more : leading (k + 1) (kept_at bs) ≡ k + 1 = leading_more (kept_at bs) k all_lead (this true e) in
        let place : w.at + 3 + size_at bs w.at ≡ place_of bs (k + 1) = rw turn_place (sym (place_next bs k)) in
        rw (more, place) refl

pub walk_begins : (bs : List ℕ) → record { count = 0; at = 0 } ≡ walked_to bs 0
unfolding leading place_of
walk_begins bs = refl

-- ---- places rise

pub places_rise : (bs : List ℕ) (i j : ℕ) → i ≤ j → place_of bs i ≤ place_of bs j
unfolding place_of
places_rise bs i zero l = let e : i ≡ 0 = omega arith in rw e (omega arith)
places_rise bs i (suc j) l =
    ⊎_elim (λ (b : i < suc j). omega (arith, places_rise bs i j (omega arith))) (λ (b : suc j ≤ i). let e : i ≡ suc j = omega arith in rw e (omega arith)) (below_or_not i (suc j))

-- ---- tests that are turned round

neither : (a b : Bool) → (not a && not b) ≡ true → (a || b) ≡ false
neither true b h = absurd (true≢false (sym h))
neither false true h = absurd (true≢false (sym h))
neither false false h = refl

either : (a b : Bool) → (not a && not b) ≡ false → (a || b) ≡ true
either true b h = refl
either false true h = refl
either false false h = absurd (true≢false h)

not_both : (a b : Bool) → (not a || not b) ≡ true → (a && b) ≡ false
not_both true true h = absurd (true≢false (sym h))
not_both true false h = refl
not_both false b h = refl

both : (a b : Bool) → (not a || not b) ≡ false → (a && b) ≡ true
both true true h = refl
both true false h = absurd (true≢false h)
both false b h = absurd (true≢false h)

-- ---- the end of the versions

module _ (bs : List ℕ) (a : ℕ) where
  pub ends_short : left bs a < 3 → ends_at bs a ≡ false
  unfolding ends_at
  ends_short l = rw (lt-leb 3 _ l) refl

  module _ (enough : 3 ≤ left bs a) {size : ℕ} (is : size ≡ size_at bs a) where
    pub ends_other : (not (eqb (tag_at bs a) end_tag) || not (eqb size end_size)) ≡ true → ends_at bs a ≡ false
    unfolding ends_at
    ends_other t =
        let e : (eqb (tag_at bs a) end_tag && eqb (size_at bs a) end_size) ≡ false = rw (← is) (not_both (eqb (tag_at bs a) end_tag) (eqb size end_size) t) in
        rw (le-leb 3 _ enough, e) refl

    pub ends_zeros : (not (eqb (tag_at bs a) end_tag) || not (eqb size end_size)) ≡ false → ends_at bs a ≡ zeros_from bs (a + 3)
    unfolding ends_at
    ends_zeros t =
        let e : (eqb (tag_at bs a) end_tag && eqb (size_at bs a) end_size) ≡ true = rw (← is) (both (eqb (tag_at bs a) end_tag) (eqb size end_size) t) in
        rw (le-leb 3 _ enough, e) refl

  pub ends_inside : ends_at bs a ≡ true → a + 3 ≤ length bs
  unfolding ends_at
  ends_inside h = let l = leb-true 3 (left bs a) (and-true _ _ h).0 in omega arith

-- ---- when it is a store

module _ (bs : List ℕ) where
  pub other_length : length bs ≢ store_size → is_store bs ≡ false
  unfolding is_store
  other_length o = rw (ne_eqb _ _ o) refl

  pub some_missing : length bs ≡ store_size → none_missing bs ≡ false → is_store bs ≡ false
  unfolding is_store
  some_missing l e = rw (eq-eqb _ _ l, e) refl

  pub not_ended : length bs ≡ store_size → none_missing bs ≡ true → ends_at bs (end_in bs) ≡ false → is_store bs ≡ false
  unfolding is_store
  not_ended l e d = rw (eq-eqb _ _ l, e, d) refl

  pub all_stands : length bs ≡ store_size → none_missing bs ≡ true → ends_at bs (end_in bs) ≡ true → is_store bs ≡ true
  unfolding is_store
  all_stands l e d = rw (eq-eqb _ _ l, e, d) refl

-- the test of what is missing, turned round
module _ (bs : List ℕ) {before count : ℕ} (begun : before ≡ before_in bs) (counted : count ≡ count_in bs) where
  pub missing : (not (eqb before 0) && not (eqb count most_kept)) ≡ true → none_missing bs ≡ false
  missing t = rw (← begun, ← counted) (neither (eqb before 0) (eqb count most_kept) t)

  pub not_missing : (not (eqb before 0) && not (eqb count most_kept)) ≡ false → none_missing bs ≡ true
  not_missing t = rw (← begun, ← counted) (either (eqb before 0) (eqb count most_kept) t)

-- what a store says
pub record StoreHere (bs : List ℕ) : Type 0 where
  pub long : length bs ≡ store_size
  pub none_missing_lem : none_missing bs ≡ true
  pub ended : ends_at bs (end_in bs) ≡ true

pub store_here : (bs : List ℕ) → is_store bs ≡ true → StoreHere bs
unfolding is_store
store_here bs h =
    let w = and-true (eqb (length bs) store_size) _ h in
    let v = and-true (none_missing bs) _ w.1 in
    record { long = eqb-true _ _ w.0; none_missing_lem = v.0; ended = v.1 }
