-- The laws of the answers.
use Prim.Native.Nat.{ℕ, zero, suc, ◌+◌, ◌-◌, ◌≤◌, ◌<◌}
use mathlib.Core.Path.{◌≡◌, refl, sym, ap, ◌∙◌}
use mathlib.Core.Bool.{true, false, ◌||◌}
use mathlib.Core.List.{List, ◌++◌}
use mathlib.Core.Logic.{◌≢◌, ⊎_elim}
use native.Mathlib.Omega.{arith}
use borrow.Author.Tests.{leb-true, leb-false, ltb-true, ltb-false, eq-eqb, ne_eqb, le-leb, lt-leb, le-ltb, lt-ltb}
use lib.Dec.{leb, ltb}
use lib.ListN.{length}
use Rattle.units.specs.Numbers.{no_version, accepted}
use Rattle.units.proofs.JudgingLaws.{held, failed, passed, true_or_false, true_and, and-true}
use Rattle.fields.specs.Bytes.{AllBytes}
use Rattle.fields.specs.Fields.{size_at}
use Rattle.fields.specs.Rows.{laid}
use Rattle.sheets.specs.Layout.{end_bytes}
use Rattle.sheets.specs.Reading.{read_plan}
use Rattle.sheets.proofs.ReadLaws.{then_rest, then_keeps, then_none}
use Rattle.versions.specs.Layout.{store_size, most_kept, last_version, version_bytes, empty_store}
use Rattle.versions.specs.Area.{place_of, before_in, kept_at, count_in, end_in, newest_in, is_store, area_number}
use Rattle.versions.specs.Answers.{Held, is_long, emptied_area, Emptied, is_full, next_place, moved_down, with_room, with_version, store_number, store_answer, area_after, Stored, is_kept, find_number, found_place, found_with, found_version, versions_with, versions_in}
use Rattle.versions.specs.Bounds.{StoreHolds, RoomMade}
use Rattle.versions.specs.declared.Holding.{Holding}
use Rattle.versions.proofs.AreaLaws.{and_first, and_second, or_none_lem, or_some, leading_most, newest_small, places_short, places_rise, place_none, place_next, kept_here, FieldHere, ends_inside, store_here}

-- ---- judging

module _ (bs : List ℕ) where
  pub judged_store : is_store bs ≡ true → AllBytes bs → Held bs (record { before = before_in bs; count = count_in bs; end = end_in bs })
  judged_store e bytes =
      record { store = e; before = refl; count = refl; end = refl; newest = newest_small bs bytes (omega (arith, (store_here bs e).long)) }

  pub area_refused : is_store bs ≡ false → area_number bs ≡ 2
  area_refused e = failed _ _ _ e

  pub area_accepted : is_store bs ≡ true → area_number bs ≡ 0
  area_accepted e = held _ _ _ e

-- ---- answers of finding

found_not : (bs : List ℕ) (a k : ℕ) → k ≢ 0 → found_with k bs a ≡ record { place = 0; length = 0; number = k }
unfolding found_with
found_not bs a zero o = absurd (o refl)
found_not bs a (suc k) o = refl

not_kept : (bs : List ℕ) (version : ℕ) → (leb version (before_in bs) || ltb (newest_in bs) version) ≡ true → is_kept bs version ≡ false
not_kept bs version t =
    let low = ltb (before_in bs) version in
    let high = leb version (newest_in bs) in
    ⊎_elim (λ (e : leb version (before_in bs) ≡ true). and_first low high (le-ltb (before_in bs) version (leb-true version (before_in bs) e)))
    (λ (e : ltb (newest_in bs) version ≡ true). and_second low high (lt-leb version (newest_in bs) (ltb-true (newest_in bs) version e)))
    (or_some (leb version (before_in bs)) (ltb (newest_in bs) version) t)

found_in_lem : (bs : List ℕ) (version k : ℕ) → find_number bs version ≡ k → (found_with k bs (found_place bs version)).place + (found_with k bs (found_place bs version)).length ≤ length bs
unfolding found_with
found_in_lem bs version zero e =
    let kept = (passed (is_kept bs version) no_version accepted (omega arith) (then_none _ _ e).1).0 in
    let both = and-true (ltb (before_in bs) version) _ kept in
    let above : before_in bs < version = ltb-true _ _ both.0 in
    let below : version ≤ newest_in bs = leb-true _ _ both.1 in
    let field = (kept_here bs most_kept (version - before_in bs - 1) (omega arith)).field in
    omega (arith, field.inside, field.some)
found_in_lem bs version (suc k) e = omega arith

-- the bytes that are found lie inside the area, whatever it is
pub found_inside : (bs : List ℕ) (version : ℕ) → (found_version bs version).place + (found_version bs version).length ≤ length bs
found_inside bs version = found_in_lem bs version (find_number bs version) refl

-- ---- an area that is no store

module _ (bs : List ℕ) (not_store : is_store bs ≡ false) where
  pub versions_refused : record { oldest = 0; newest = 0; number = 2 } ≡ versions_in bs
  unfolding versions_with
  versions_refused = rw (area_refused bs not_store) refl

  pub found_refused : (version : ℕ) → record { place = 0; length = 0; number = 2 } ≡ found_version bs version
  found_refused version =
      let k : find_number bs version ≡ 2 = then_keeps _ _ (λ e. absurd (omega (arith, area_refused bs not_store, e))) ∙ area_refused bs not_store in
      rw k (sym (found_not bs (found_place bs version) 2 (omega arith)))

-- ---- a store

module _ {bs : List ℕ} {r : Holding} (here : Held bs r) where
  -- which versions there are
  pub versions_none : r.count ≡ 0 → record { oldest = 0; newest = 0; number = 0 } ≡ versions_in bs
  unfolding versions_with
  versions_none n = rw (area_accepted bs here.store, eq-eqb (count_in bs) 0 (sym here.count ∙ n)) refl

  pub versions_some : r.count ≢ 0 → record { oldest = r.before + 1; newest = r.before + r.count; number = 0 } ≡ versions_in bs
  unfolding versions_with
  versions_some n = rw (area_accepted bs here.store, ne_eqb (count_in bs) 0 (λ e. n (here.count ∙ e)), here.before, here.count) refl

  -- finding
  module _ (version : ℕ) where
    pub found_none : (leb version r.before || ltb (r.before + r.count) version) ≡ true → record { place = 0; length = 0; number = 17 } ≡ found_version bs version
    found_none t =
        let k : find_number bs version ≡ 17 = then_rest _ _ (area_accepted bs here.store) ∙ failed _ _ _ (not_kept bs version (rw (here.before, here.count) at t)) in
        rw k (sym (found_not bs (found_place bs version) 17 (omega arith)))

    module _ (t : (leb version r.before || ltb (r.before + r.count) version) ≡ false) where
      pub above : r.before < version
      above = leb-false _ _ (or_none_lem (leb version r.before) _ t).0

      pub at_most : version ≤ r.before + r.count
      at_most = ltb-false _ _ (or_none_lem (leb version r.before) _ t).1

      -- the place of the version that is looked for
      pub found_field : FieldHere bs (place_of bs (version - r.before - 1))
      found_field = (kept_here bs most_kept (version - r.before - 1) (omega (arith, above, at_most, here.count))).field

      pub found_there : (a : ℕ) → a ≡ place_of bs (version - r.before - 1) → (size : ℕ) → size ≡ size_at bs a → record { place = a + 7; length = size - 4; number = 0 } ≡ found_version bs version
      unfolding found_with
      found_there a e size d =
          let low : before_in bs < version = omega (arith, above, here.before) in
          let high : version ≤ newest_in bs = omega (arith, at_most, here.before, here.count) in
          let kept : is_kept bs version ≡ true = true_and _ _ (lt-ltb _ _ low) (le-leb _ _ high) in
          let k : find_number bs version ≡ 0 = then_rest _ _ (area_accepted bs here.store) ∙ held _ _ _ kept in
          let place : a ≡ found_place bs version = rw here.before at e in
          rw (k, d, place) refl

-- ---- storing

stored_not : (k version : ℕ) → k ≢ 0 → store_answer k version ≡ record { version = 0; number = k }
unfolding store_answer
stored_not zero version o = absurd (o refl)
stored_not (suc k) version o = refl

area_not : (k : ℕ) (next bs : List ℕ) → k ≢ 0 → area_after k next bs ≡ bs
unfolding area_after
area_not zero next bs o = absurd (o refl)
area_not (suc k) next bs o = refl

module _ (bs sheet : List ℕ) where
  pub stored_refused : (k : ℕ) → k ≢ 0 → store_number bs sheet ≡ k → Stored sheet bs bs (record { version = 0; number = k })
  stored_refused k o e =
      record {
        answer = rw e (sym (stored_not k (newest_in bs + 1) o));
        area = rw e (sym (area_not k (with_version bs sheet) bs o));
      }

  pub number_area : area_number bs ≢ 0 → store_number bs sheet ≡ area_number bs
  number_area o = then_keeps _ _ o

  module _ (z : area_number bs ≡ 0) where
    pub number_sheet : (read_plan sheet).number ≢ 0 → store_number bs sheet ≡ (read_plan sheet).number
    number_sheet o = then_rest _ _ z ∙ then_keeps _ _ o

    pub number_used : (read_plan sheet).number ≡ 0 → newest_in bs ≡ last_version → store_number bs sheet ≡ 18
    number_used e n =
        let last : last_version ≤ newest_in bs = omega arith in
        then_rest _ _ z ∙ then_rest _ _ e ∙ failed _ _ _ (le-ltb _ _ last)

    pub stored_all : (read_plan sheet).number ≡ 0 → newest_in bs < last_version → (after : List ℕ) → after ≡ with_version bs sheet → Stored sheet bs after (record { version = newest_in bs + 1; number = 0 })
    unfolding store_answer area_after
    stored_all e n after d =
        let k : store_number bs sheet ≡ 0 = then_rest _ _ z ∙ then_rest _ _ e ∙ held _ _ _ (lt-ltb _ _ n) in
        record { answer = rw k refl; area = rw k d }

  -- the field laid where there is room
  pub version_put : {area after : List ℕ} {a number : ℕ} → area ≡ with_room bs → a ≡ next_place bs → number ≡ newest_in bs + 1 → after ≡ laid area a (version_bytes number sheet ++ end_bytes) → after ≡ with_version bs sheet
  version_put e p n d = d ∙ rw (e, p, n) refl

-- ---- emptying

pub emptied_not : (bs : List ℕ) → length bs ≢ store_size → Emptied bs bs 2
unfolding emptied_area
emptied_not bs o = let e : is_long bs ≡ false = ne_eqb _ _ o in record { answer = sym (failed _ _ _ e); area = rw e refl }

pub emptied_all : (bs after : List ℕ) → length bs ≡ store_size → after ≡ empty_store → Emptied bs after 0
unfolding emptied_area
emptied_all bs after l d = let e : is_long bs ≡ true = eq-eqb _ _ l in record { answer = sym (held _ _ _ e); area = rw e d }

-- ---- room for one more

module _ {bs : List ℕ} {count end : ℕ} (h : StoreHolds bs count end) where
  pub room_enough : count ≢ most_kept → RoomMade bs bs end
  unfolding next_place with_room
  room_enough o =
      let full : is_full bs ≡ false = ne_eqb _ _ (λ e. o (h.counted ∙ e)) in
      record { place = rw full h.ended; area = rw full refl }

  module _ (all : count ≡ most_kept) where
    counted_all : count_in bs ≡ most_kept
    counted_all = sym h.counted ∙ all

    pub oldest_field : FieldHere bs 0
    oldest_field = rw (place_none bs) at (kept_here bs most_kept 0 (omega (arith, counted_all))).field

    pub behind_oldest : (by : ℕ) → by ≡ size_at bs 0 + 3 → by ≡ place_of bs 1
    behind_oldest by e = omega (arith, place_next bs 0, place_none bs, ap (size_at bs) (place_none bs))

    pub end_inside : end + 3 ≤ length bs
    end_inside = omega (arith, ends_inside bs (end_in bs) (store_here bs h.store).ended, h.ended)

    pub oldest_before : place_of bs 1 ≤ end
    oldest_before = omega (arith, places_rise bs 1 (count_in bs) (omega (arith, counted_all)), h.ended)

    pub room_made : (by : ℕ) → by ≡ place_of bs 1 → (after : List ℕ) → after ≡ moved_down bs by end → RoomMade bs after (end - by)
    unfolding next_place with_room
    room_made by e after d =
        let full : is_full bs ≡ true = eq-eqb _ _ counted_all in
        record { place = rw (full, e, h.ended) refl; area = d ∙ rw (full, e, h.ended) refl }

-- the next version's place leaves room for the longest plan
pub next_short : (bs : List ℕ) → next_place bs ≤ 53_808
unfolding next_place
next_short bs =
    let end = places_short bs most_kept (count_in bs) (omega arith) in
    let few = leading_most (kept_at bs) most_kept in
    ⊎_elim (λ (e : is_full bs ≡ true). rw e (omega arith)) (λ (e : is_full bs ≡ false). rw e (omega arith)) (true_or_false (is_full bs))
