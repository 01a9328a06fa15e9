-- Everything that `specs/Promised.antt` lists, proved.
use Prim.Native.Nat.{ℕ, ◌≤◌}
use mathlib.Core.Path.{◌≡◌, refl, sym, ap, subst, ◌∙◌}
use mathlib.Core.Bool.{Bool, true, false, cond}
use mathlib.Core.List.{List, []}
use mathlib.Core.Logic.{◌≢◌, ⊎_elim, ◌↔◌}
use native.Mathlib.Omega.{arith}
use borrow.Author.Tests.{eqb-true, eqb-false, le-leb}
use lib.Dec.{eqb, leb}
use Rattle.units.proofs.JudgingLaws.{true_or_false, and-true, true_and}
use Rattle.units.specs.Numbers.{most_stations}
use Rattle.sets.specs.declared.Set.{Set}
use Rattle.plans.specs.declared.Alloc.{Alloc}
use Rattle.differences.specs.Views.{View, view_of, SamePlan}
use Rattle.differences.specs.Differences.{Difference, in_header, in_station, one_sided, alone, differences, is_none, is_same_plan, apply_all, Differs, In}
use Rattle.differences.specs.Promised.{Lists, Promised}
use Rattle.differences.proofs.Lists.{same_lists}
use Rattle.differences.proofs.Applying.{Place, at_header, at_station, at_number, bit, value, bit_same, Compared, own, Right, untouched, touched}
use Rattle.differences.proofs.Listing.{listed_differs, differs_listed, listed_rising}
use Rattle.differences.proofs.SameLaws.{same_plan}
use Rattle.differences.proofs.NoneLaws.{is_none_lem, none_is, none_count}

-- ---- the difference that stands for a place

module _ (v w : View) where
  own_come : (i : ℕ) → w.has i ≡ true → own v w (at_station i) ≡ alone true w.number i
  own_come i h = ap (λ (x : Bool). cond x (alone true w.number i) (alone false v.number i)) h

  own_gone : (i : ℕ) → w.has i ≡ false → own v w (at_station i) ≡ alone false v.number i
  own_gone i h = ap (λ (x : Bool). cond x (alone true w.number i) (alone false v.number i)) h

  own_number : (i j : ℕ) → v.has i ≡ true → own v w (at_number i j) ≡ in_station i j (v.number i j) (w.number i j)
  own_number i j h = ap (λ (x : Bool). cond x (in_station i j (v.number i j) (w.number i j)) (alone true w.number i)) h

  own_new : (i j : ℕ) → v.has i ≡ false → own v w (at_number i j) ≡ alone true w.number i
  own_new i j h = ap (λ (x : Bool). cond x (in_station i j (v.number i j) (w.number i j)) (alone true w.number i)) h

  -- a station that one plan has and the other has not
  station_differs : (i : ℕ) → value (at_station i) v ≢ value (at_station i) w → Differs v w (own v w (at_station i))
  station_differs i n =
      ⊎_elim (λ (y : w.has i ≡ true).
      let none : v.has i ≡ false = ⊎_elim (λ x. absurd (n (ap bit (x ∙ sym y)))) (λ x. x) (true_or_false (v.has i)) in
      subst (Differs v w) (sym (own_come i y)) ((none, y), refl))
      (λ (y : w.has i ≡ false).
      let some : v.has i ≡ true = ⊎_elim (λ x. x) (λ x. absurd (n (ap bit (x ∙ sym y)))) (true_or_false (v.has i)) in
      subst (Differs v w) (sym (own_gone i y)) ((some, y), refl))
      (true_or_false (w.has i))

module _ (t : Set) (a : Alloc) (u : Set) (b : Alloc) where
  abbrev v : View
  v = view_of t a

  abbrev w : View
  w = view_of u b

  -- ---- a list of all that differs gives the second plan

  module _ (ds : List Difference) (R : Right v w ds) (all : (d : Difference) → Differs v w d → In d ds) where
    at_place : (p : Place) → Compared w p → (value p v ≢ value p w → Differs v w (own v w p)) → value p (apply_all ds v) ≡ value p w
    at_place p c differs =
        ⊎_elim (λ (e : eqb (value p v) (value p w) ≡ true).
        ⊎_elim (λ h. touched v w p ds v R c h) (λ s. s ∙ eqb-true _ _ e) (untouched v w p ds v R c))
        (λ (e : eqb (value p v) (value p w) ≡ false). touched v w p ds v R c (all (own v w p) (differs (eqb-false _ _ e))))
        (true_or_false (eqb (value p v) (value p w)))

    gives : SamePlan (apply_all ds (view_of t a)) (view_of u b)
    gives =
        record {
          header = λ tag T. at_place (at_header tag) tt (λ n. (T, (refl, refl), n));
          stations = λ i. bit_same _ _ (at_place (at_station i) tt (station_differs v w i));
          numbers = λ i j h l.
              ⊎_elim (λ (y : v.has i ≡ true).
              at_place (at_number i j) (h, l) (λ n. subst (Differs v w) (sym (own_number v w i j y)) ((y, h), l, (refl, refl), n)))
              (λ (y : v.has i ≡ false). touched v w (at_number i j) ds v R (h, l) (all _ (subst (Differs v w) (sym (own_new v w i j y)) ((y, h), refl))))
              (true_or_false (v.has i));
        }

  -- ---- a list that gives the second plan has all that differs

  module _ (ds : List Difference) (R : Right v w ds) (same : SamePlan (apply_all ds (view_of t a)) (view_of u b)) where
    -- a place that is changed has its own difference in the list
    listed_there : (p : Place) → Compared w p → value p (apply_all ds v) ≡ value p w → value p v ≢ value p w → In (own v w p) ds
    listed_there p c is n = ⊎_elim (λ h. h) (λ s. absurd (n (sym s ∙ is))) (untouched v w p ds v R c)

    complete : (d : Difference) → Differs v w d → In d ds
    complete (in_header tag old new) D =
        let h = listed_there (at_header tag) tt (same.header tag D.0) (λ e. D.2 (D.1.0 ∙ e ∙ sym D.1.1)) in
        rw (D.1.0, D.1.1) h
    complete (in_station i j old new) D =
        let h = listed_there (at_number i j) (D.0.1, D.1) (same.numbers i j D.0.1 D.1) (λ e. D.3 (D.2.0 ∙ e ∙ sym D.2.1)) in
        rw (D.2.0, D.2.1) (subst (λ (x : Difference). In x ds) (own_number v w i j D.0.0) h)
    complete (one_sided true i p q r s x) D =
        let h = listed_there (at_station i) tt (ap bit (same.stations i)) (λ e. apart D.0.0 D.0.1 e) in
        rw D.1 (subst (λ (x : Difference). In x ds) (own_come v w i D.0.1) h)
      where
        apart : v.has i ≡ false → w.has i ≡ true → bit (v.has i) ≡ bit (w.has i) → ⊥
        apart f g e = let z : ◌≡◌ {A = ℕ} 0 1 = sym (ap bit f) ∙ e ∙ ap bit g in omega arith
    complete (one_sided false i p q r s x) D =
        let h = listed_there (at_station i) tt (ap bit (same.stations i)) (λ e. apart D.0.0 D.0.1 e) in
        rw D.1 (subst (λ (x : Difference). In x ds) (own_gone v w i D.0.1) h)
      where
        apart : v.has i ≡ true → w.has i ≡ false → bit (v.has i) ≡ bit (w.has i) → ⊥
        apart f g e = let z : ◌≡◌ {A = ℕ} 1 0 = sym (ap bit f) ∙ e ∙ ap bit g in omega arith

  listed : t.n ≤ 128 → u.n ≤ 128 → Lists t a u b (differences t a u b)
  listed few many =
      record {
        gives = gives (differences t a u b) (listed_differs t a u b) (differs_listed t a u b);
        differs = listed_differs t a u b;
        rising = listed_rising t a u b few many;
      }

  one_list : (ds : List Difference) → t.n ≤ 128 → u.n ≤ 128 → Lists t a u b ds → ds ≡ differences t a u b
  one_list ds few many L =
      same_lists ds (differences t a u b) L.rising (listed_rising t a u b few many)
      (λ d i. differs_listed t a u b d (L.differs d i))
      (λ d i. complete ds L.differs L.gives d (listed_differs t a u b d i))

  nothing : SamePlan (view_of t a) (view_of u b) → SamePlan (apply_all [] (view_of t a)) (view_of u b)
  unfolding apply_all
  nothing same = same

  nothing_back : SamePlan (apply_all [] (view_of t a)) (view_of u b) → SamePlan (view_of t a) (view_of u b)
  unfolding apply_all
  nothing_back same = same

  none_listed : t.n ≤ 128 → u.n ≤ 128 → (differences t a u b ≡ []) ↔ SamePlan (view_of t a) (view_of u b)
  none_listed few many = (
    λ e. nothing_back (subst (λ (ds : List Difference). SamePlan (apply_all ds (view_of t a)) (view_of u b)) e (listed few many).gives),
    λ same. sym (one_list [] few many (record { gives = nothing same; differs = λ d i. absurd i; rising = tt })),
  )

  -- what is answered of two plans

  same_told : t.n ≤ 128 → (is_same_plan t a u b ≡ true) ↔ SamePlan (view_of t a) (view_of u b)
  same_told few = (
    λ e.
        let none = (and-true (leb t.n most_stations) (is_none (differences t a u b)) e).1 in
        (none_listed few (omega (arith, few, none_count t a u b none))).0 (is_none_lem (differences t a u b) none),
    λ same.
        let many : u.n ≤ 128 = omega (arith, few, ((same_plan t a u b).0 same).0.count) in
        true_and _ _ (le-leb t.n most_stations few) (none_is (differences t a u b) ((none_listed few many).1 same)),
  )

pub promised : Promised
promised =
    record {
      lists = listed;
      one_list = one_list;
      all_listed = λ t a u b d few many D. differs_listed t a u b d D;
      none_listed = none_listed;
      same_told = same_told;
      same_plan = same_plan;
    }
