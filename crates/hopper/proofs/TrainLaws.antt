-- A change goes by its number: refused, the train stays; accepted, it has the list with its plan.
use Prim.Native.Nat.{ℕ, zero, suc}
use mathlib.Core.Path.{◌≡◌, refl, sym, ap, ◌∙◌}
use mathlib.Core.Bool.{true, false}
use mathlib.Core.Logic.{◌≢◌}
use lib.Dec.{ltb}
use borrow.Author.Tests.{eq-eqb, ne_eqb}
use Rattle.units.proofs.JudgingLaws.{held, failed}
use Rattle.units.specs.declared.Station.{Station}
use Rattle.hopper.specs.Wagons.{wagon_fits, judged_list, with_wagon}
use Rattle.hopper.specs.Requests.{list_planned}
use Rattle.hopper.specs.Trains.{changed_by, changed_train, place_number, wagon_number, changed_wagon}
use Rattle.hopper.specs.declared.Wagon.{Wagon}
use Rattle.hopper.specs.declared.WagonList.{WagonList}
use Rattle.hopper.specs.declared.Train.{Train}

pub change_refused : (k : ℕ) (t : Train) (l : WagonList) → k ≢ 0 → changed_by k t l ≡ record { train = t; number = k }
unfolding changed_by
change_refused zero t l h = absurd (h refl)
change_refused (suc k) t l h = refl

pub change_given : (k : ℕ) (t : Train) (l : WagonList) → k ≡ 0 → changed_by k t l ≡ record { train = record { list = l; plan = (list_planned l).alloc }; number = 0 }
unfolding changed_by
change_given k t l h = rw h refl

-- ---- what is refused of one wagon's change before the planner is asked

pub place_list : (l : WagonList) (i : ℕ) (v : Wagon) → judged_list l ≢ 0 → place_number l i v ≡ judged_list l
unfolding place_number
place_list l i v h = failed _ _ _ (ne_eqb _ _ h)

pub place_wagon : (l : WagonList) (i : ℕ) (v : Wagon) → judged_list l ≡ 0 → wagon_fits v.boxes v.brake v.door ≡ false → place_number l i v ≡ 4
unfolding place_number
place_wagon l i v h w = held _ _ _ (eq-eqb _ _ h) ∙ failed _ _ _ w

pub place_past : (l : WagonList) (i : ℕ) (v : Wagon) → judged_list l ≡ 0 → wagon_fits v.boxes v.brake v.door ≡ true → ltb i l.n ≡ false
    → place_number l i v ≡ 9
unfolding place_number
place_past l i v h w b = held _ _ _ (eq-eqb _ _ h) ∙ held _ _ _ w ∙ failed _ _ _ b

pub place_none : (l : WagonList) (i : ℕ) (v : Wagon) → judged_list l ≡ 0 → wagon_fits v.boxes v.brake v.door ≡ true → ltb i l.n ≡ true
    → place_number l i v ≡ 0
unfolding place_number
place_none l i v h w b = held _ _ _ (eq-eqb _ _ h) ∙ held _ _ _ w ∙ held _ _ _ b

-- ---- the number of one wagon's change

pub wagon_refused : (l : WagonList) (i : ℕ) (v : Wagon) → place_number l i v ≢ 0 → wagon_number l i v ≡ place_number l i v
wagon_refused l i v h = failed _ _ _ (ne_eqb _ _ h)

pub wagon_given : (l : WagonList) (i : ℕ) (v : Wagon) → place_number l i v ≡ 0 → wagon_number l i v ≡ (list_planned l).number
wagon_given l i v h = held _ _ _ (eq-eqb _ _ h)

-- ---- another wagon at a place, where l is the list with it and k what is refused before the planner is asked

module _ (t : Train) (p : Station) (v : Wagon) (l : WagonList) (k : ℕ) (made : l ≡ with_wagon t.list p.0 v) (told : k ≡ place_number l p.0 v) where
  number_is : k ≡ place_number (with_wagon t.list p.0 v) p.0 v
  number_is = told ∙ ap (λ (x : WagonList). place_number x p.0 v) made

  pub refused_before : k ≢ 0 → record { train = t; number = k } ≡ changed_wagon t p v
  refused_before h =
      let m = with_wagon t.list p.0 v in
      let refused : place_number m p.0 v ≢ 0 = λ z. h (number_is ∙ z) in
      let number : wagon_number m p.0 v ≡ k = wagon_refused m p.0 v refused ∙ sym number_is in
      sym (ap (λ (j : ℕ). changed_by j t m) number ∙ change_refused k t m h)

  pub then_planned : k ≡ 0 → changed_train t l ≡ changed_wagon t p v
  then_planned h =
      let m = with_wagon t.list p.0 v in
      ap (changed_train t) made ∙ sym (ap (λ (j : ℕ). changed_by j t m) (wagon_given m p.0 v (sym number_is ∙ h)))
