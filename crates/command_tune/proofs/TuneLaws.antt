-- Which requests are refused, in the order in which they are asked; and a range tried some TTRT at a time is tried whole, because each time goes on where the last one ended.
use Prim.Native.Nat.{ℕ, zero, suc, ◌+◌, ◌-◌, ◌*◌, ◌≤◌, ◌<◌, min}
use mathlib.Core.Path.{◌≡◌, refl, sym, ap, ◌∙◌}
use mathlib.Core.Bool.{true, false}
use mathlib.Core.List.{List}
use mathlib.Core.Logic.{◌↔◌, ◌≢◌, ⊎_elim}
use native.Mathlib.Omega.{arith}
use borrow.Author.Tests.{eq-eqb, ne_eqb, lt-ltb, le-ltb, ltb-true}
use Rattle.units.specs.Numbers.{most_ttrt}
use Rattle.units.proofs.JudgingLaws.{decides_le, decides_both, true_or_false, held, failed}
use Rattle.units.proofs.SmallLaws.{below_or_not}
use Rattle.sets.specs.declared.Set.{Set}
use Rattle.field_reader.specs.Scanned.{scanned}
use Rattle.sheets.specs.Reading.{given_answer, given_sheet}
use Rattle.sheets.proofs.ReadLaws.{then_keeps, then_rest, then_none}
use Rattle.tuning.specs.Shown.{PlannedIn, Shown}
use Rattle.tuning.specs.Tunings.{with_ttrt, judged_at_all, spare_at, no_tuning, tuned_over, tuned}
use Rattle.tuning.specs.declared.Tuning.{Tuning}
use Rattle.tuning.proofs.Promised as tuning
use Rattle.command_tune.specs.Tune.{is_range, requested, tune_number, tried_to, refused_with, begun_with, begun, is_done, further_of, went_on, went_on_for, ended_with, ended}
use Rattle.command_tune.specs.Lines.{found_line, plan_line_of, number_of}
use Rattle.command_tune.specs.declared.Tune.{Tune}

-- ---- FROM and TO

pub record InRange (from to : ℕ) : Type 0 where
  pub first : 1 ≤ from
  pub order : from ≤ to
  pub last : to ≤ most_ttrt

pub ranged : (from to : ℕ) → is_range from to ≡ true → InRange from to
ranged from to e =
    let all = (decides_both _ _ _ _ (decides_both _ _ _ _ (decides_le 1 from) (decides_le from to)) (decides_le to most_ttrt)).0 e in
    record { first = all.0.0; order = all.0.1; last = all.1 }

-- ---- refused, or begun

begun_refused : (k : ℕ) (t : Set) (from to : ℕ) → k ≢ 0 → begun_with k t from to ≡ refused_with k
unfolding begun_with
begun_refused zero t from to n = absurd (n refl)
begun_refused (suc k) t from to n = refl

pub begun_accepted : (k : ℕ) (t : Set) (from to : ℕ) → k ≡ 0 → begun_with k t from to ≡ tried_to t from to from no_tuning
unfolding begun_with
begun_accepted k t from to e = rw e refl

module _ (bs : List ℕ) (from to : ℕ) where
  -- a number that is given first
  first_given : (k : ℕ) → tune_number bs from to ≡ k → k ≢ 0 → refused_with k ≡ begun bs from to
  first_given k is n = sym (ap (λ (j : ℕ). begun_with j (requested bs) from to) is ∙ begun_refused k (requested bs) from to n)

  pub by_scan : (scanned false bs).number ≢ 0 → refused_with (scanned false bs).number ≡ begun bs from to
  by_scan n = first_given _ (then_keeps _ _ n) n

  module _ (passed : (scanned false bs).number ≡ 0) where
    pub by_range : is_range from to ≡ false → refused_with 4 ≡ begun bs from to
    by_range e = first_given 4 (then_rest _ _ passed ∙ failed _ _ _ e) (omega arith)

    -- the set that is handed out is the request's
    pub given_set : (given_sheet false bs).set ≡ requested bs
    unfolding given_sheet given_answer
    given_set = rw passed refl

    module _ (range : is_range from to ≡ true) where
      number_is : tune_number bs from to ≡ judged_at_all (requested bs)
      number_is = then_rest _ _ passed ∙ held _ _ _ range

      pub by_set : judged_at_all (requested bs) ≢ 0 → refused_with (judged_at_all (requested bs)) ≡ begun bs from to
      by_set n = first_given _ number_is n

      pub none_refused : judged_at_all (requested bs) ≡ 0 → tried_to (requested bs) from to from no_tuning ≡ begun bs from to
      none_refused e = sym (begun_accepted _ (requested bs) from to (number_is ∙ e))

-- ---- some TTRT more

pub went_more : (k : Tune) → is_done k ≡ false → went_on k ≡ further_of k
unfolding went_on
went_more k e = rw e refl

pub went_done : (k : Tune) → is_done k ≡ true → went_on k ≡ k
unfolding went_on
went_done k e = rw e refl

pub went_none : (k : Tune) → went_on_for 0 k ≡ k
unfolding went_on_for
went_none k = refl

pub went_again : (i : ℕ) (k : Tune) → went_on_for (suc i) k ≡ went_on (went_on_for i k)
unfolding went_on_for
went_again i k = refl

-- how many were tried after i times
abbrev done_of : ℕ → ℕ → ℕ → ℕ
done_of from to i = min (i * 4_096) (to + 1 - from)

tuned_none : (t : Set) (from : ℕ) → tuned t from 0 ≡ no_tuning
unfolding tuned_over
tuned_none t from = refl

module _ (t : Set) (from to : ℕ) (range : InRange from to) where
  -- the range tried up to so many
  abbrev up_to : ℕ → Tune
  up_to d = tried_to t from to (from + d) (tuned t from d)

  -- goes on from there
  goes_on : (d : ℕ) → from + d ≤ to → went_on (up_to d) ≡ up_to (d + min (to + 1 - (from + d)) 4_096)
  goes_on d l =
      let size = min (to + 1 - (from + d)) 4_096 in
      let place : from + d + size ≡ from + (d + size) = omega arith in
      went_more (up_to d) (le-ltb to (from + d) l)
      ∙ ap (λ (k : Tuning). tried_to t from to (from + d + size) k) ((tuning.promised).joined t from d size no_tuning)
      ∙ ap (λ (n : ℕ). tried_to t from to n (tuned t from (d + size))) place

  -- or stays
  stays : (d : ℕ) → to < from + d → went_on (up_to d) ≡ up_to d
  stays d l = went_done (up_to d) (lt-ltb to (from + d) l)

  after : (i : ℕ) → went_on_for i (tried_to t from to from no_tuning) ≡ up_to (done_of from to i)
  unfolding went_on_for
  after zero =
      let none : done_of from to 0 ≡ 0 = omega arith in
      let place : from + 0 ≡ from = omega arith in
      sym (ap up_to none ∙ ap (λ (k : Tuning). tried_to t from to (from + 0) k) (tuned_none t from) ∙ ap (λ (n : ℕ). tried_to t from to n no_tuning) place)
  after (suc i) =
      let d = done_of from to i in
      let step =
      ⊎_elim (λ (l : to < from + d).
      let all : d ≡ done_of from to (suc i) = omega (arith, range.order) in
      stays d l ∙ ap up_to all)
      (λ (l : from + d ≤ to).
      let more : d + min (to + 1 - (from + d)) 4_096 ≡ done_of from to (suc i) = omega (arith, range.order) in
      goes_on d l ∙ ap up_to more)
      (below_or_not to (from + d)) in
      ap went_on (after i) ∙ step

  pub whole : (i : ℕ) → is_done (went_on_for i (tried_to t from to from no_tuning)) ≡ true → went_on_for i (tried_to t from to from no_tuning) ≡ tried_to t from to (to + 1) (tuned t from (to + 1 - from))
  whole i e =
      let d = done_of from to i in
      let done : to < from + d = ltb-true to (from + d) (rw (after i) at e) in
      let all : d ≡ to + 1 - from = omega (arith, range.order) in
      let place : from + (to + 1 - from) ≡ to + 1 = omega (arith, range.order) in
      after i ∙ ap up_to all ∙ ap (λ (n : ℕ). tried_to t from to n (tuned t from (to + 1 - from))) place

  pub ends : is_done (went_on_for 245 (tried_to t from to from no_tuning)) ≡ true
  ends =
      let d = done_of from to 245 in
      let done : to < from + d = omega (arith, range.first, range.order, range.last) in
      rw (after 245) (lt-ltb to (from + d) done)

-- a refused one stays as it is
refused_stays : (k i : ℕ) → went_on_for i (refused_with k) ≡ refused_with k
unfolding went_on_for
refused_stays k zero = refl
refused_stays k (suc i) = ap went_on (refused_stays k i) ∙ went_done (refused_with k) refl

-- what is accepted has a range
pub accepted_range : (bs : List ℕ) (from to : ℕ) → tune_number bs from to ≡ 0 → InRange from to
accepted_range bs from to e =
    ⊎_elim (λ r. ranged from to r)
    (λ (r : is_range from to ≡ false). absurd (omega (arith, (then_none _ _ e).1, failed (is_range from to) 4 (judged_at_all (requested bs)) r)))
    (true_or_false (is_range from to))

module _ (t : Set) (from to : ℕ) where
  pub whole_with : (k : ℕ) → (k ≡ 0 → InRange from to) → (i : ℕ) → is_done (went_on_for i (begun_with k t from to)) ≡ true → went_on_for i (begun_with k t from to) ≡ ended_with k t from to
  unfolding begun_with ended_with
  whole_with zero range i e = whole t from to (range refl) i e
  whole_with (suc k) range i e = refused_stays (suc k) i

  pub ends_with : (k : ℕ) → (k ≡ 0 → InRange from to) → is_done (went_on_for 245 (begun_with k t from to)) ≡ true
  unfolding begun_with
  ends_with zero range = ends t from to (range refl)
  ends_with (suc k) range = rw (refused_stays (suc k) 245) refl

-- ---- what is shown

module _ (t : Set) (from to : ℕ) where
  ended_seen : (k : ℕ) → k ≡ 0 → ended_with k t from to ≡ tried_to t from to (to + 1) (tuned t from (to + 1 - from))
  unfolding ended_with
  ended_seen k e = rw e refl

  ended_refused : (k : ℕ) → k ≢ 0 → ended_with k t from to ≡ refused_with k
  unfolding ended_with
  ended_refused zero n = absurd (n refl)
  ended_refused (suc k) n = refl

module _ (bs : List ℕ) (from to : ℕ) where
  pub seen_is : tune_number bs from to ≡ 0 → ended bs from to ≡ tried_to (requested bs) from to (to + 1) (tuned (requested bs) from (to + 1 - from))
  seen_is e = ended_seen (requested bs) from to (tune_number bs from to) e

  pub shown : tune_number bs from to ≡ 0 → Shown (requested bs) from (to + 1 - from) (ended bs from to).seen
  shown e = rw (seen_is e) ((tuning.promised).shown (requested bs) from (to + 1 - from))

  -- 6 exactly where nothing is counted
  six_for : (k : Tune) → k.number ≡ 0 → k.seen.count ≡ 0 → number_of k ≡ 6
  unfolding number_of
  six_for k e z = then_rest k.number _ e ∙ rw (eq-eqb k.seen.count 0 z) refl

  none_for : (k : Tune) → k.number ≡ 0 → k.seen.count ≢ 0 → number_of k ≡ 0
  unfolding number_of
  none_for k e n = then_rest k.number _ e ∙ rw (ne_eqb k.seen.count 0 n) refl

  pub status : tune_number bs from to ≡ 0 → (number_of (ended bs from to) ≡ 0) ↔ ((x : ℕ) × PlannedIn (requested bs) from (to + 1 - from) x)
  status e =
      let k = ended bs from to in
      let accepted : k.number ≡ 0 = ap (λ (j : Tune). j.number) (seen_is e) in
      let none = (tuning.promised).none (requested bs) from (to + 1 - from) in
      let counted : k.seen.count ≡ (tuned (requested bs) from (to + 1 - from)).count = ap (λ (j : Tune). j.seen.count) (seen_is e) in
      let smallest = (shown e).smallest in (
        λ n.
            ⊎_elim (λ (l : 0 < k.seen.smallest). (k.seen.smallest, smallest.one l))
            (λ (l : k.seen.smallest ≤ 0). absurd (omega (arith, n, six_for k accepted (counted ∙ none.1 (smallest.none (omega arith))))))
            (below_or_not 0 k.seen.smallest),
        λ h. none_for k accepted (λ z. none.0 (sym counted ∙ z) h.0 h.1),
      )

  pub refused : tune_number bs from to ≢ 0 → number_of (ended bs from to) ≡ tune_number bs from to
  unfolding number_of
  refused n = rw (ended_refused (requested bs) from to (tune_number bs from to) n) (then_keeps _ _ n)

  pub plan_line_lem : tune_number bs from to ≡ 0 → 0 < (ended bs from to).seen.best → found_line (ended bs from to) 8 ≡ plan_line_of (with_ttrt (requested bs) (ended bs from to).seen.best)
  unfolding found_line
  plan_line_lem e l =
      let t = requested bs in
      let k = ended bs from to in
      let set : k.set ≡ t = ap (λ (j : Tune). j.set) (seen_is e) in
      let spare : k.seen.spare ≡ spare_at t k.seen.best = (shown e).spare l in
      rw (set, spare) refl
