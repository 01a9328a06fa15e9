-- A change gives the new list with its plan or the old train, so what held of the train's plan holds after any list of changes; one wagon put in changes its place alone.
use Prim.Native.Nat.{ℕ, zero, suc, ◌+◌, ◌≤◌, ◌<◌}
use mathlib.Core.Path.{◌≡◌, refl, sym, ap, ◌∙◌}
use mathlib.Core.List.{List, [], ◌∷◌}
use mathlib.Core.Logic.{◌↔◌, ◌≢◌, ◌⊎◌, inl, inr, ⊎_elim}
use native.Mathlib.Omega.{arith}
use lib.Dec.{ltb}
use lib.Seq.{get_or-set_same, get_or-set_other}
use borrow.Author.Tests.{lt-ltb, ltb-true, eq-eqb}
use Rattle.units.proofs.SmallLaws.{below_or_not}
use Rattle.units.specs.Judging.{or_else, Decides}
use Rattle.units.proofs.JudgingLaws.{held, given, given_later, not_given, iff_then, iff_under, passed}
use Rattle.units.specs.declared.Station.{Station}
use Rattle.hopper.specs.Wagons.{Shaped, WagonFits, CountFits, WagonsFit, ListFits, wagon_fits, judged_list, with_wagon, with_more, without_last}
use Rattle.hopper.specs.Requests.{list_planned}
use Rattle.hopper.specs.Trains.{blank_train, changed_by, changed_wagon, coupled, place_number, wagon_number}
use Rattle.hopper.specs.declared.Wagon.{Wagon}
use Rattle.hopper.specs.declared.WagonList.{WagonList}
use Rattle.hopper.specs.declared.Train.{Train}
use Rattle.hopper.specs.declared.Coupled.{Coupled}
use Rattle.hopper.proofs.WagonLaws.{decides_wagon, list_fits, with_past, with_at, more_full, more_room}
use Rattle.hopper.proofs.TrainLaws.{change_refused, change_given, wagon_refused, wagon_given, place_list, place_none}
use Rattle.hopper_rules.specs.Changes.{Change, new_list, new_wagon, one_more, last_off, answer_to, list_asked, after, PlanInForce}
use Rattle.hopper_rules.specs.Promised.{wagon_at, ChangedAt}
use Rattle.hopper_rules.proofs.AnswerLaws.{same_or_not, list_two, list_four, list_only, number_refused, own_number, answer_two}

-- ---- a change by its number

number_by_lem : (k : ℕ) (t : Train) (l : WagonList) → (changed_by k t l).number ≡ k
unfolding changed_by
number_by_lem zero t l = refl
number_by_lem (suc k) t l = refl

-- refused: the train as it was
stays : (k : ℕ) (t : Train) (l : WagonList) → (changed_by k t l).number ≢ 0 → (changed_by k t l).train ≡ t
stays k t l h = ap (λ (c : Coupled). c.train) (change_refused k t l (λ e. h (number_by_lem k t l ∙ e)))

-- accepted: the list with its plan, where the number says that it has one
moves : (k : ℕ) (t : Train) (l : WagonList) → (k ≡ 0 → (list_planned l).number ≡ 0) → (changed_by k t l).number ≡ 0
    → ((changed_by k t l).train.list ≡ l) × PlanInForce (changed_by k t l).train
moves k t l has h =
    let none : k ≡ 0 = sym (number_by_lem k t l) ∙ h in
    let e = ap (λ (c : Coupled). c.train) (change_given k t l none) in
    (ap (λ (u : Train). u.list) e, rw e (ap (λ (n : ℕ). record { alloc = (list_planned l).alloc; number = n }) (has none)))

-- the change of one wagon is accepted only where its list has a plan
wagon_has : (l : WagonList) (i : ℕ) (v : Wagon) → wagon_number l i v ≡ 0 → (list_planned l).number ≡ 0
wagon_has l i v h =
    ⊎_elim (λ z. sym (wagon_given l i v z) ∙ h) (λ n. absurd (n (sym (wagon_refused l i v n) ∙ h))) (same_or_not (place_number l i v) 0)

pub refused_stays : (t : Train) (c : Change) → (answer_to t c).number ≢ 0 → (answer_to t c).train ≡ t
unfolding answer_to
refused_stays t (new_list l) h = stays _ t l h
refused_stays t (new_wagon p v) h = stays _ t _ h
refused_stays t (one_more v) h = stays _ t _ h
refused_stays t last_off h = stays _ t _ h

pub accepted_moves : (t : Train) (c : Change) → (answer_to t c).number ≡ 0 → ((answer_to t c).train.list ≡ list_asked t.list c) × PlanInForce (answer_to t c).train
unfolding answer_to list_asked
accepted_moves t (new_list l) h = moves _ t l (λ e. e) h
accepted_moves t (new_wagon p v) h = moves _ t (with_wagon t.list p.0 v) (wagon_has _ p.0 v) h
accepted_moves t (one_more v) h = moves _ t (with_more t.list v) (λ e. e) h
accepted_moves t last_off h = moves _ t (without_last t.list) (λ e. e) h

-- ---- after any list of changes

pub kept_by : (t : Train) (c : Change) → PlanInForce t → PlanInForce (answer_to t c).train
kept_by t c h =
    ⊎_elim (λ e. (accepted_moves t c e).1) (λ n. rw (refused_stays t c n) h) (same_or_not (answer_to t c).number 0)

pub kept_after : (t : Train) (cs : List Change) → PlanInForce t → PlanInForce (after t cs)
unfolding after
kept_after t [] h = h
kept_after t (c ∷ cs) h = kept_after (answer_to t c).train cs (kept_by t c h)

-- ---- coupling

pub coupled_moves : (l : WagonList) → (coupled l).number ≡ 0 → ((coupled l).train.list ≡ l) × PlanInForce (coupled l).train
coupled_moves l h = moves _ blank_train l (λ e. e) h

pub coupled_says : (l : WagonList) → (coupled l).number ≡ (list_planned l).number
coupled_says l = number_by_lem _ blank_train l

pub coupled_stays : (l : WagonList) → (coupled l).number ≢ 0 → (coupled l).train ≡ blank_train
coupled_stays l h = stays _ blank_train l h

-- ---- the numbers of one wagon's change

-- a wagon put in leaves the count
pub count_kept : (l : WagonList) (i : ℕ) (v : Wagon) → (with_wagon l i v).n ≡ l.n
count_kept l i v =
    ⊎_elim (λ (b : i < 12). ap (λ (m : WagonList). m.n) (with_at l i v b)) (λ (b : 12 ≤ i). ap (λ (m : WagonList). m.n) (with_past l i v b)) (below_or_not i 12)

decides_lt : (a b : ℕ) → Decides (ltb a b) (a < b)
decides_lt a b = (ltb-true a b, lt-ltb a b)

-- what is refused behind the list's own numbers: a bad wagon, then a place that is not below the count
abbrev behind : WagonList → ℕ → Wagon → ℕ
behind m i v = or_else (wagon_fits v.boxes v.brake v.door) 4 (or_else (ltb i m.n) 9 0)

module _ (m : WagonList) (i : ℕ) (v : Wagon) where
  place_behind : judged_list m ≡ 0 → place_number m i v ≡ behind m i v
  unfolding place_number
  place_behind z = held _ _ _ (eq-eqb _ _ z)

  -- a number that the planner never gives here is the list's, or comes behind it
  given_by_lem : (k : ℕ) → k ≢ 0 → k ≢ 6 → (wagon_number m i v ≡ k) ↔ ((judged_list m ≡ k) ⊎ ((judged_list m ≡ 0) × (behind m i v ≡ k)))
  given_by_lem k n₀ n₆ = (
    λ e.
        ⊎_elim (λ j.
        ⊎_elim (λ p. absurd (n₀ (sym ((own_number m k n₀ n₆).0 (sym (wagon_given m i v p) ∙ e)) ∙ j)))
        (λ p. inr (j, sym (place_behind j) ∙ sym (wagon_refused m i v p) ∙ e))
        (same_or_not (place_number m i v) 0))
        (λ j.
        let own = place_list m i v j in
        inl (sym own ∙ sym (wagon_refused m i v (λ p. j (sym own ∙ p))) ∙ e))
        (same_or_not (judged_list m) 0),
    ⊎_elim (λ j.
        let own = place_list m i v (λ z. n₀ (sym j ∙ z)) in
        wagon_refused m i v (λ p. n₀ (sym j ∙ sym own ∙ p)) ∙ own ∙ j)
        (λ h.
        let told = place_behind h.0 ∙ h.1 in
        wagon_refused m i v (λ p. n₀ (sym told ∙ p)) ∙ told),
  )

  four_behind : (behind m i v ≡ 4) ↔ ¬ WagonFits v.boxes v.brake v.door
  four_behind = given _ _ 4 _ (decides_wagon _ _ _) (not_given _ 9 0 4 (omega arith) (omega arith))

  nine_behind : (behind m i v ≡ 9) ↔ (WagonFits v.boxes v.brake v.door × ¬ (i < m.n))
  nine_behind = iff_then (given_later _ _ 4 _ 9 (decides_wagon _ _ _) (omega arith)) (iff_under (given _ _ 9 0 (decides_lt i m.n) (omega arith)))

  number_two : (wagon_number m i v ≡ 2) ↔ ¬ CountFits m
  number_two = (
    λ e. ⊎_elim (λ j. (list_two m).0 j) (λ h. absurd (not_given _ 4 _ 2 (omega arith) (not_given _ 9 0 2 (omega arith) (omega arith)) h.1)) ((given_by_lem 2 (omega arith) (omega arith)).0 e),
    λ n. (given_by_lem 2 (omega arith) (omega arith)).1 (inl ((list_two m).1 n)),
  )

  number_four : (wagon_number m i v ≡ 4) ↔ (CountFits m × ¬ (WagonsFit m × WagonFits v.boxes v.brake v.door))
  number_four = (
    λ e.
        ⊎_elim (λ j. let h = (list_four m).0 j in (h.0, λ both. h.1 both.0)) (λ h. (((list_fits m).0 h.0).count, λ both. four_behind.0 h.1 both.1))
        ((given_by_lem 4 (omega arith) (omega arith)).0 e),
    λ h.
        (given_by_lem 4 (omega arith) (omega arith)).1
        (⊎_elim (λ j. inr (j, four_behind.1 (λ f. h.1 (((list_fits m).0 j).wagons, f)))) (⊎_elim (λ j. absurd ((list_two m).0 j h.0)) (λ j. inl j)) (list_only m)),
  )

  number_nine : (wagon_number m i v ≡ 9) ↔ (ListFits m × (WagonFits v.boxes v.brake v.door × ¬ (i < m.n)))
  number_nine = (
    λ e.
        ⊎_elim (λ j. absurd (⊎_elim (λ z. absurd (omega arith)) (⊎_elim (λ t. absurd (omega arith)) (λ f. absurd (omega arith))) (list_only m)))
        (λ h. ((list_fits m).0 h.0, nine_behind.0 h.1))
        ((given_by_lem 9 (omega arith) (omega arith)).0 e),
    λ h. (given_by_lem 9 (omega arith) (omega arith)).1 (inr ((list_fits m).1 h.0, nine_behind.1 h.1)),
  )

  number_then : i < m.n → WagonFits v.boxes v.brake v.door → wagon_number m i v ≡ (list_planned m).number
  number_then b f =
      ⊎_elim (λ j. wagon_given m i v (place_none m i v j ((decides_wagon _ _ _).1 f) (lt-ltb i m.n b)))
      (λ j. let own = place_list m i v j in wagon_refused m i v (λ p. j (sym own ∙ p)) ∙ own ∙ sym (number_refused m j))
      (same_or_not (judged_list m) 0)

  -- accepted: the list is one of the product's, and the place is below its count
  accepted_place : wagon_number m i v ≡ 0 → ListFits m × (i < m.n)
  accepted_place e =
      let p : place_number m i v ≡ 0 = ⊎_elim (λ z. z) (λ n. absurd (n (sym (wagon_refused m i v n) ∙ e))) (same_or_not (place_number m i v) 0) in
      let j : judged_list m ≡ 0 = ⊎_elim (λ z. z) (λ n. absurd (n (sym (place_list m i v n) ∙ p))) (same_or_not (judged_list m) 0) in
      let rest = (passed _ 4 _ (omega arith) (sym (place_behind j) ∙ p)).1 in
      ((list_fits m).0 j, ltb-true i m.n (passed _ 9 0 (omega arith) rest).0)

-- ---- of a train

module _ (t : Train) (p : Station) (v : Wagon) where
  abbrev new : WagonList
  new = with_wagon t.list p.0 v

  said : (changed_wagon t p v).number ≡ wagon_number new p.0 v
  said = number_by_lem (wagon_number new p.0 v) t new

  same_count : new.n ≡ t.list.n
  same_count = count_kept t.list p.0 v

  pub change_two : ((changed_wagon t p v).number ≡ 2) ↔ ¬ CountFits t.list
  change_two =
      let both = number_two new p.0 v in (
        λ e count. both.0 (sym said ∙ e) (omega (arith, same_count, count), omega (arith, same_count, count)),
        λ h. said ∙ both.1 (λ count. h (omega (arith, same_count, count), omega (arith, same_count, count))),
      )

  pub change_four : ((changed_wagon t p v).number ≡ 4) ↔ (CountFits t.list × ¬ (WagonsFit new × WagonFits v.boxes v.brake v.door))
  change_four =
      let both = number_four new p.0 v in (
        λ e. let h = both.0 (sym said ∙ e) in ((omega (arith, same_count, h.0), omega (arith, same_count, h.0)), h.1),
        λ h. said ∙ both.1 ((omega (arith, same_count, h.0), omega (arith, same_count, h.0)), h.1),
      )

  pub change_nine : ((changed_wagon t p v).number ≡ 9) ↔ (ListFits new × (WagonFits v.boxes v.brake v.door × ¬ (p.0 < t.list.n)))
  change_nine =
      let both = number_nine new p.0 v in (
        λ e. let h = both.0 (sym said ∙ e) in (h.0, (h.1.0, λ b. h.1.1 (omega (arith, same_count, b)))),
        λ h. said ∙ both.1 (h.0, (h.1.0, λ b. h.1.1 (omega (arith, same_count, b)))),
      )

  pub change_planned : p.0 < t.list.n → WagonFits v.boxes v.brake v.door → (changed_wagon t p v).number ≡ (list_planned new).number
  change_planned b f = said ∙ number_then new p.0 v (omega (arith, same_count, b)) f

-- ---- one wagon put in changes its place alone

this_at : (l : WagonList) (i : ℕ) (v : Wagon) → Shaped l → i < 12 → wagon_at (with_wagon l i v) i ≡ v
this_at l i v shape b =
    rw (
      with_at l i v b,
      get_or-set_same l.boxes i v.boxes 0 (omega (arith, shape.boxes)),
      get_or-set_same l.brake i v.brake 0 (omega (arith, shape.brake)),
      get_or-set_same l.door i v.door 0 (omega (arith, shape.door)),
    )
    refl

others_at : (l : WagonList) (i : ℕ) (v : Wagon) → i < 12 → (j : ℕ) → j ≢ i → wagon_at (with_wagon l i v) j ≡ wagon_at l j
others_at l i v b j other =
    rw (
      with_at l i v b,
      get_or-set_other l.boxes i j v.boxes 0 other,
      get_or-set_other l.brake i j v.brake 0 other,
      get_or-set_other l.door i j v.door 0 other,
    )
    refl

pub changed_at_lem : (l : WagonList) (i : ℕ) (v : Wagon) (n : ℕ) → Shaped l → i < 12 → ChangedAt n i v l (with_wagon l i v)
changed_at_lem l i v n shape b =
    record {
      this = this_at l i v shape b;
      others = λ j below other. others_at l i v b j other;
    }

pub wagon_moves : (t : Train) (p : Station) (v : Wagon) → Shaped t.list → (changed_wagon t p v).number ≡ 0
    → ((changed_wagon t p v).train.list.n ≡ t.list.n) × ChangedAt t.list.n p.0 v t.list (changed_wagon t p v).train.list
wagon_moves t p v shape h =
    let m = with_wagon t.list p.0 v in
    let accepted = accepted_place m p.0 v (sym (number_by_lem (wagon_number m p.0 v) t m) ∙ h) in
    let count = accepted.0.count in
    let list = (moves _ t m (wagon_has m p.0 v) h).0 in
    rw list (count_kept t.list p.0 v, changed_at_lem t.list p.0 v t.list.n shape (omega arith))

-- ---- one wagon more, and the last one off

pub more_stands : (l : WagonList) (v : Wagon) → Shaped l → l.n < 12 → ((with_more l v).n ≡ l.n + 1) × ChangedAt l.n l.n v l (with_more l v)
more_stands l v shape b =
    let put = changed_at_lem l l.n v l.n shape b in
    rw (more_room l v b) (refl, record { this = put.this; others = put.others })

pub no_thirteenth : (l : WagonList) (v : Wagon) → 12 ≤ l.n → (list_planned (with_more l v)).number ≡ 2
no_thirteenth l v h = (answer_two (with_more l v)).1 (rw (more_full l v h) (λ count. absurd (omega (arith, count))))

pub none_left : (l : WagonList) → l.n ≤ 1 → (list_planned (without_last l)).number ≡ 2
none_left l h = (answer_two (without_last l)).1 (λ count. absurd (omega (arith, count)))
