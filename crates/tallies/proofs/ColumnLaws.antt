-- A column over all records: what is joined to it visit by visit is the number of the records alone. Said once, for sums and for the greatest number.
use Rattle.std.proofs.Common.{◌≡◌, ℕ, ◌+◌, ◌%◌, ◌^◌, ◌<◌, ◌≤◌, max, true, false, cond, eqb, ltb, ◌≢◌, ◌⊎◌, List, [], ◌∷◌, length, sym, refl, ap, ◌∙◌, inl, inr, ⊎_elim, add_assoc, mod-lt, mod-eq_of_lt, zero-add, arith, length-set, get_or-set_other, get_or-set_same, eq-eqb, ne_eqb, eqb-true}
use native.Mathlib.Nat.{mod-add-mod, zero-max}
use borrow.Author.Tests.{eqb-false}
use lib.ListN.{length-replicate, get_or-replicate}
use Rattle.units.specs.Places.{at}
use Rattle.units.proofs.JudgingLaws.{true_or_false}
use Rattle.log_records.specs.declared.VisitEntry.{VisitEntry}
use Rattle.log_records.specs.declared.MarkEntry.{MarkEntry}
use Rattle.log_records.specs.declared.Entry.{Entry}
use Rattle.log_records.specs.declared.Entry.TheVariants.{Visit, Mark}
use Rattle.tallies.specs.Laps.{wrapped}
use Rattle.tallies.specs.Tallies.{visits_column, through_column, most_column, synchronous_column, asynchronous_column, place_of, switch_of, marked_by, visit_tallied, switched_by, nothing_seen, seen, seen_all}
use Rattle.tallies.specs.Shown.{Known, of_station, visits_of, through_of, most_of, synchronous_of, asynchronous_of}
use Rattle.tallies.specs.declared.Seen.{Seen}
use Rattle.tallies.proofs.VisitLaws.{tallied_long, visits_there, through_there, most_there, synchronous_there, asynchronous_there, elsewhere}

-- ---- one record

-- a station below 128 has its own place
pub own_place : (station : ℕ) → station < 128 → place_of station ≡ station
own_place station known = mod-eq_of_lt known

pub of_same : (i : ℕ) (v : VisitEntry) (x : ℕ) → v.station ≡ i → of_station i v x ≡ x
unfolding of_station
of_same i v x h = rw (eq-eqb v.station i h) refl

pub of_other : (i : ℕ) (v : VisitEntry) (x : ℕ) → v.station ≢ i → of_station i v x ≡ 0
unfolding of_station
of_other i v x h = rw (ne_eqb v.station i h) refl

pub same_or_not : (i : ℕ) (v : VisitEntry) → (v.station ≡ i) ⊎ (v.station ≢ i)
same_or_not i v = ⊎_elim (λ h. inl (eqb-true v.station i h)) (λ h. inr (eqb-false v.station i h)) (true_or_false (eqb v.station i))

pub switch_twice : (mark : ℕ) → switch_of (switch_of mark) ≡ switch_of mark
unfolding switch_of
switch_twice mark = ⊎_elim (λ (h : eqb mark 0 ≡ true). rw h refl) (λ (h : eqb mark 0 ≡ false). rw h refl) (true_or_false (eqb mark 0))

-- a mark that was 0 or 1 is so behind any other
marked_switch : (before mark : ℕ) → switch_of before ≡ before → switch_of (marked_by before mark) ≡ marked_by before mark
unfolding marked_by
marked_switch before mark was =
    ⊎_elim (λ (h : ltb 1 mark ≡ true). rw h was) (λ (h : ltb 1 mark ≡ false). rw h (switch_twice mark)) (true_or_false (ltb 1 mark))

-- the mark of station i behind a mark
module _ (mark : List ℕ) (m : MarkEntry) (i : ℕ) (long : length mark ≡ 128) (known : m.station < 128) where
  switched_at : at (switched_by mark (Mark m)) i ≡ cond (eqb m.station i) (marked_by (at mark i) m.mark) (at mark i)
  switched_at =
      let after = marked_by (at mark m.station) m.mark in
      ⊎_elim
      (λ (h : eqb m.station i ≡ true).
      let same : m.station ≡ i = eqb-true m.station i h in
      rw (h, ← same) (get_or-set_same mark m.station after 0 (omega arith)))
      (λ (h : eqb m.station i ≡ false).
      rw h (get_or-set_other mark m.station i after 0 (λ e. eqb-false m.station i h (sym e))))
      (true_or_false (eqb m.station i))

-- ---- a column

-- numbers that are joined one after another, those that fit
pub record Joined (join both : ℕ → ℕ → ℕ) (Fits : ℕ → Type 0) : Type 0 where
  pub fits : (a x : ℕ) → Fits (join a x)
  pub none : (a : ℕ) → Fits a → join a 0 ≡ a
  pub more : (a x y : ℕ) → join (join a x) y ≡ join a (both x y)

-- at station i: `part` of a visit is joined to the column, and `total` is the number of the records alone
pub record Column (i c : ℕ) (join both : ℕ → ℕ → ℕ) (part : ℕ → VisitEntry → ℕ) (total : ℕ → List Entry → ℕ) : Type 0 where
  pub whole : c % 128 ≡ 0
  pub there : (xs : List ℕ) (mark clock : ℕ) (v : VisitEntry) → length xs ≡ 896 → at (visit_tallied xs i mark clock v) (c + i) ≡ join (at xs (c + i)) (part mark v)
  pub total_none : (mark : ℕ) → total mark [] ≡ 0
  pub total_visit : (mark : ℕ) (v : VisitEntry) (es : List Entry) → switch_of mark ≡ mark → total mark (Visit v ∷ es) ≡ both (of_station i v (part mark v)) (total mark es)
  pub total_mark : (mark : ℕ) (m : MarkEntry) (es : List Entry) → total mark (Mark m ∷ es) ≡ total (cond (eqb m.station i) (marked_by mark m.mark) mark) es

-- what was seen has all its places, and the marks are 0 and 1
pub record Whole (i : ℕ) (s : Seen) : Type 0 where
  pub long : length s.numbers ≡ 896
  pub marks : length s.mark ≡ 128
  pub switch : switch_of (at s.mark i) ≡ at s.mark i

module _ (n : ℕ) (w : List ℕ) (i : ℕ) (inside : i < 128) where
  pub whole_visit : (s : Seen) (v : VisitEntry) → Whole i s → Whole i (seen n w 0 s (Visit v))
  unfolding seen
  whole_visit s v h =
      record {
        long = tallied_long s.numbers (place_of v.station) (at s.mark (place_of v.station)) s.course.clock v h.long;
        marks = h.marks;
        switch = h.switch;
      }

  pub whole_mark : (s : Seen) (m : MarkEntry) → m.station < 128 → Whole i s → Whole i (seen n w 0 s (Mark m))
  unfolding seen
  whole_mark s m known h =
      record {
        long = h.long;
        marks = length-set s.mark m.station (marked_by (at s.mark m.station) m.mark) ∙ h.marks;
        switch =
            rw (switched_at s.mark m i h.marks known)
            (⊎_elim (λ (e : eqb m.station i ≡ true). rw e (marked_switch (at s.mark i) m.mark h.switch)) (λ (e : eqb m.station i ≡ false). rw e h.switch) (true_or_false (eqb m.station i)));
      }

  module _ (c : ℕ) (join both : ℕ → ℕ → ℕ) (part : ℕ → VisitEntry → ℕ) (total : ℕ → List Entry → ℕ) (Fits : ℕ → Type 0) (joined : Joined join both Fits) (col : Column i c join both part total) where
    visit_joined : (s : Seen) (v : VisitEntry) → v.station < 128 → Whole i s → Fits (at s.numbers (c + i)) → at (seen n w 0 s (Visit v)).numbers (c + i) ≡ join (at s.numbers (c + i)) (of_station i v (part (at s.mark i) v))
    unfolding seen
    visit_joined s v known h fits =
        let xs = s.numbers in
        let clock = s.course.clock in
        let own = own_place v.station known in
        ⊎_elim
        (λ (e : v.station ≡ i).
        rw (of_same i v (part (at s.mark i) v) e, own ∙ e) (col.there xs (at s.mark i) clock v h.long))
        (λ (e : v.station ≢ i).
        rw (own, of_other i v (part (at s.mark i) v) e)
        (elsewhere xs v.station (at s.mark v.station) clock v h.long known c i col.whole inside (λ z. e (sym z)) ∙ sym (joined.none (at xs (c + i)) fits)))
        (same_or_not i v)

    pub column : (s : Seen) (es : List Entry) → Known es → Whole i s → Fits (at s.numbers (c + i)) → at (seen_all n w s es).numbers (c + i) ≡ join (at s.numbers (c + i)) (total (at s.mark i) es)
    unfolding seen_all seen Known
    column s [] known h fits = rw (col.total_none (at s.mark i)) (sym (joined.none (at s.numbers (c + i)) fits))
    column s (Visit v ∷ es) known h fits =
        let a = at s.numbers (c + i) in
        let mark = at s.mark i in
        let x = of_station i v (part mark v) in
        let one = visit_joined s v known.0 h fits in
        column (seen n w 0 s (Visit v)) es known.1 (whole_visit s v h) (rw one (joined.fits a x))
        ∙ ap (λ (y : ℕ). join y (total mark es)) one
        ∙ joined.more a x (total mark es)
        ∙ ap (join a) (sym (col.total_visit mark v es h.switch))
    column s (Mark m ∷ es) known h fits =
        let a = at s.numbers (c + i) in
        column (seen n w 0 s (Mark m)) es known.1 (whole_mark s m known.0 h) fits
        ∙ ap (λ (mark : ℕ). join a (total mark es)) (switched_at s.mark m i h.marks known.0)
        ∙ ap (join a) (sym (col.total_mark (at s.mark i) m es))

-- ---- the five columns that are joined

abbrev added : ℕ → ℕ → ℕ
added a x = wrapped (a + x)

added_joined : Joined added ◌+◌ (λ a. a < 2 ^ 64)
added_joined =
    record {
      fits = λ a x. mod-lt (a + x) (omega arith);
      none = λ a fits. omega arith;
      more = λ a x y. mod-add-mod (a + x) (2 ^ 64) y ∙ ap wrapped (add_assoc a x y);
    }

raised_joined : Joined max max (λ a. Unit {0})
raised_joined = record { fits = λ a x. tt; none = λ a fits. omega arith; more = λ a x y. omega arith }

module _ (i : ℕ) (inside : i < 128) where
  visits_column_lem : Column i visits_column added ◌+◌ (λ mark v. 1) (λ mark. visits_of i)
  unfolding visits_of
  visits_column_lem =
      record {
        whole = refl;
        there = λ xs mark clock v long. visits_there xs i mark clock v long inside;
        total_none = λ mark. refl;
        total_visit = λ mark v es switch. refl;
        total_mark = λ mark m es. refl;
      }

  through_column_lem : Column i through_column added ◌+◌ (λ mark v. switch_of mark) (through_of i)
  unfolding through_of
  through_column_lem =
      record {
        whole = refl;
        there = λ xs mark clock v long. through_there xs i mark clock v long inside;
        total_none = λ mark. refl;
        total_visit = λ mark v es switch. ap (λ (x : ℕ). of_station i v x + through_of i mark es) (sym switch);
        total_mark = λ mark m es. refl;
      }

  most_column_lem : Column i most_column max max (λ mark v. v.synchronous) (λ mark. most_of i)
  unfolding most_of
  most_column_lem =
      record {
        whole = refl;
        there = λ xs mark clock v long. most_there xs i mark clock v long inside;
        total_none = λ mark. refl;
        total_visit = λ mark v es switch. refl;
        total_mark = λ mark m es. refl;
      }

  synchronous_column_lem : Column i synchronous_column added ◌+◌ (λ mark v. v.synchronous) (λ mark. synchronous_of i)
  unfolding synchronous_of
  synchronous_column_lem =
      record {
        whole = refl;
        there = λ xs mark clock v long. synchronous_there xs i mark clock v long inside;
        total_none = λ mark. refl;
        total_visit = λ mark v es switch. refl;
        total_mark = λ mark m es. refl;
      }

  asynchronous_column_lem : Column i asynchronous_column added ◌+◌ (λ mark v. v.asynchronous) (λ mark. asynchronous_of i)
  unfolding asynchronous_of
  asynchronous_column_lem =
      record {
        whole = refl;
        there = λ xs mark clock v long. asynchronous_there xs i mark clock v long inside;
        total_none = λ mark. refl;
        total_visit = λ mark v es switch. refl;
        total_mark = λ mark m es. refl;
      }

  -- ---- from the first record on

  pub nothing_at : (c : ℕ) → c + 128 ≤ 896 → at nothing_seen.numbers (c + i) ≡ 0
  nothing_at c room = get_or-replicate {A = ℕ} 896 (c + i) 0 0 (omega arith)

  no_mark : at nothing_seen.mark i ≡ 0
  no_mark = get_or-replicate {A = ℕ} 128 i 0 0 inside

  pub nothing_whole : Whole i nothing_seen
  unfolding switch_of
  nothing_whole =
      record {
        long = length-replicate {A = ℕ} 896 0;
        marks = length-replicate {A = ℕ} 128 0;
        switch = rw no_mark refl;
      }

  module _ (n : ℕ) (w : List ℕ) (es : List Entry) (known : Known es) where
    sums : (c : ℕ) → c + 128 ≤ 896 → (part : ℕ → VisitEntry → ℕ) (total : ℕ → List Entry → ℕ) → Column i c added ◌+◌ part total → at (seen_all n w nothing_seen es).numbers (c + i) ≡ wrapped (total 0 es)
    sums c room part total col =
        let none = nothing_at c room in
        column n w i inside c added ◌+◌ part total (λ a. a < 2 ^ 64) added_joined col nothing_seen es known nothing_whole (omega (arith, none))
        ∙ ap (λ (a : ℕ). added a (total (at nothing_seen.mark i) es)) none
        ∙ ap (λ (mark : ℕ). wrapped (0 + total mark es)) no_mark
        ∙ ap wrapped (zero-add (total 0 es))

    pub visits_shown : at (seen_all n w nothing_seen es).numbers (visits_column + i) ≡ wrapped (visits_of i es)
    visits_shown = sums visits_column (omega arith) (λ mark v. 1) (λ mark. visits_of i) visits_column_lem

    pub through_shown : at (seen_all n w nothing_seen es).numbers (through_column + i) ≡ wrapped (through_of i 0 es)
    through_shown = sums through_column (omega arith) (λ mark v. switch_of mark) (through_of i) through_column_lem

    pub synchronous_shown : at (seen_all n w nothing_seen es).numbers (synchronous_column + i) ≡ wrapped (synchronous_of i es)
    synchronous_shown = sums synchronous_column (omega arith) (λ mark v. v.synchronous) (λ mark. synchronous_of i) synchronous_column_lem

    pub asynchronous_shown : at (seen_all n w nothing_seen es).numbers (asynchronous_column + i) ≡ wrapped (asynchronous_of i es)
    asynchronous_shown = sums asynchronous_column (omega arith) (λ mark v. v.asynchronous) (λ mark. asynchronous_of i) asynchronous_column_lem

    pub most_shown : at (seen_all n w nothing_seen es).numbers (most_column + i) ≡ most_of i es
    most_shown =
        column n w i inside most_column max max (λ mark v. v.synchronous) (λ mark. most_of i) (λ a. Unit {0}) raised_joined most_column_lem nothing_seen es known nothing_whole tt
        ∙ ap (λ (a : ℕ). max a (most_of i es)) (nothing_at most_column (omega arith))
        ∙ zero-max (most_of i es)
