-- The numbers of a set with their ranges: the ranges by their places are those of 01's table, so none is listed exactly if all are in range, and where not all are, one is.
use Prim.Native.Nat.{ℕ, zero, suc, ◌≤◌, ◌<◌, zero-le}
use mathlib.Core.Path.{◌≡◌, refl, sym, ap, ◌∙◌}
use mathlib.Core.Bool.{Bool, true, false, not, true≢false}
use mathlib.Core.Logic.{◌↔◌, ◌⊎◌, inl, inr, ⊎_elim}
use native.Mathlib.Omega.{arith}
use borrow.Author.Tests.{not-true, not-false}
use Rattle.units.specs.Numbers.{timely, last_mode, most_ttrt, most_frame, most_grid, most_walk, most_c, most_d, most_p, most_s}
use Rattle.units.specs.Judging.{between}
use Rattle.units.proofs.JudgingLaws.{decides_between, true_or_false}
use Rattle.units.proofs.SmallLaws.{below_or_not}
use Rattle.units.specs.Places.{at, all_below}
use Rattle.units.proofs.PlaceLaws.{all_at}
use Rattle.sets.specs.Header.{head_number}
use Rattle.sets.specs.Rules.{CountAllowed, HeadInRange, StationInRange, NumbersAllowed}
use Rattle.sets.specs.Judged.{judged}
use Rattle.sets.proofs.SetLaws.{judged_four}
use Rattle.sets.specs.declared.Head.{Head}
use Rattle.sets.specs.declared.Set.{Set}
use Rattle.plans.specs.Rules.{InRange}
use Rattle.plans.specs.Planned.{judged_plan}
use Rattle.plans.proofs.PlanLaws.{given_four}
use Rattle.plans.specs.declared.Alloc.{Alloc}
use Rattle.differences.specs.Views.{HeaderTag, nth_of, header_of}
use Rattle.faults.specs.Ranges.{header_high, header_range, station_range, range_at, NoneOut, SomeOut}
use Rattle.faults.proofs.HoldingLaws.{fails_somewhere}

-- from place 4 on it is the last
pub nth_last : (w c d p s j : ℕ) → 4 ≤ j → nth_of w c d p s j ≡ s
unfolding nth_of
nth_last w c d p s zero l = absurd (omega arith)
nth_last w c d p s (suc zero) l = absurd (omega arith)
nth_last w c d p s (suc (suc zero)) l = absurd (omega arith)
nth_last w c d p s (suc (suc (suc zero))) l = absurd (omega arith)
nth_last w c d p s (suc (suc (suc (suc j)))) l = refl

-- ---- the header

-- what holds at the four tags holds at each tag of the header
pub each_tag : (P : ℕ → Type 0) → P 1 → P 4 → P 5 → P 6 → (tag : ℕ) → HeaderTag tag → P tag
each_tag P one four five six tag (inl e) = rw e one
each_tag P one four five six tag (inr (low, high)) =
    ⊎_elim (λ (b : tag < 5). let e : tag ≡ 4 = omega arith in rw e four)
    (λ (b : 5 ≤ tag).
    ⊎_elim (λ (k : tag < 6). let e : tag ≡ 5 = omega arith in rw e five) (λ (k : 6 ≤ tag). let e : tag ≡ 6 = omega arith in rw e six) (below_or_not tag 6))
    (below_or_not tag 5)

-- a number that is in its range is not out of it, and the other way round
in_out : (low high x : ℕ) → (not (between low high x) ≡ false) ↔ ((low ≤ x) × (x ≤ high))
in_out low high x =
    let d = decides_between low high x in
    ((λ e. d.0 (not-false _ e)), λ f. ap not (d.1 f))

header_is : (h : Head) → HeadInRange h ↔ ((tag : ℕ) → HeaderTag tag → (header_range h tag).out ≡ false)
unfolding header_high header_of head_number
header_is h = (
  λ f.
      each_tag (λ tag. (header_range h tag).out ≡ false) ((in_out 1 most_ttrt h.ttrt).1 f.ttrt) ((in_out timely last_mode h.mode).1 f.mode)
      ((in_out 1 most_frame h.frame).1 f.frame)
      ((in_out 1 most_grid h.grid).1 f.grid),
  λ n.
      record {
        ttrt = (in_out 1 most_ttrt h.ttrt).0 (n 1 (inl refl));
        mode = (in_out timely last_mode h.mode).0 (n 4 (inr (omega arith, omega arith)));
        frame = (in_out 1 most_frame h.frame).0 (n 5 (inr (omega arith, omega arith)));
        grid = (in_out 1 most_grid h.grid).0 (n 6 (inr (omega arith, omega arith)));
      },
)

-- ---- a station

module _ (w c d p s : ℕ) where
  station_in_lem : StationInRange w c d p → (j : ℕ) → j < 4 → (station_range w c d p s j).out ≡ false
  unfolding nth_of
  station_in_lem f zero l = (in_out 0 most_walk w).1 (zero-le, f.walk)
  station_in_lem f (suc zero) l = (in_out 0 most_c c).1 (zero-le, f.longest)
  station_in_lem f (suc (suc zero)) l = (in_out 1 most_d d).1 f.deadline
  station_in_lem f (suc (suc (suc zero))) l = (in_out d most_p p).1 f.gap
  station_in_lem f (suc (suc (suc (suc j)))) l = absurd (omega arith)

  s_is : ((station_range w c d p s 4).out ≡ false) ↔ (s ≤ most_s)
  unfolding nth_of
  s_is = ((λ e. ((in_out 0 most_s s).0 e).1), λ l. (in_out 0 most_s s).1 (zero-le, l))

  plan_in_lem : StationInRange w c d p → s ≤ most_s → (j : ℕ) → j < 5 → (station_range w c d p s j).out ≡ false
  plan_in_lem f small j l =
      ⊎_elim (λ (b : j < 4). station_in_lem f j b) (λ (b : 4 ≤ j). let e : j ≡ 4 = omega arith in rw e (s_is.1 small)) (below_or_not j 4)

  station_of_lem : ((j : ℕ) → j < 4 → (station_range w c d p s j).out ≡ false) → StationInRange w c d p
  unfolding nth_of
  station_of_lem n =
      record {
        walk = ((in_out 0 most_walk w).0 (n 0 (omega arith))).1;
        longest = ((in_out 0 most_c c).0 (n 1 (omega arith))).1;
        deadline = (in_out 1 most_d d).0 (n 2 (omega arith));
        gap = (in_out d most_p p).0 (n 3 (omega arith));
      }

-- ---- none, or some

module _ (t : Set) (a : Alloc) where
  own_station : (i : ℕ) → i < t.n → (k : ℕ) → 4 ≤ k → NoneOut t a k → StationInRange (at t.w i) (at t.c i) (at t.d i) (at t.p i)
  own_station i l k four none = station_of_lem _ _ _ _ (at a.s i) (λ j b. none.stations i j l (omega arith))

  pub none_listed : NumbersAllowed t ↔ NoneOut t a 4
  none_listed = (
    λ all. record { header = (header_is t.head).0 all.header; stations = λ i j l b. station_in_lem _ _ _ _ (at a.s i) (all.stations i l) j b },
    λ none. record { header = (header_is t.head).1 none.header; stations = λ i l. own_station i l 4 (omega arith) none },
  )

  pub none_listed_plan : InRange t a ↔ NoneOut t a 5
  none_listed_plan = (
    λ all. record { header = (header_is t.head).0 all.0.header; stations = λ i j l b. plan_in_lem _ _ _ _ (at a.s i) (all.0.stations i l) (all.1 i l) j b },
    λ none. (
      record { header = (header_is t.head).1 none.header; stations = λ i l. own_station i l 5 (omega arith) none },
      λ i l. (s_is (at t.w i) (at t.c i) (at t.d i) (at t.p i) (at a.s i)).0 (none.stations i 4 l (omega arith)),
    ),
  )

  header_or : ((tag : ℕ) → HeaderTag tag → (header_range t.head tag).out ≡ false) ⊎ ((tag : ℕ) × (HeaderTag tag × ((header_range t.head tag).out ≡ true)))
  header_or =
      let out : ℕ → Bool = λ tag. (header_range t.head tag).out in
      ⊎_elim (λ (e : out 1 ≡ true). inr (1, (inl refl, e)))
      (λ (one : out 1 ≡ false).
      ⊎_elim (λ (e : out 4 ≡ true). inr (4, (inr (omega arith, omega arith), e)))
      (λ (four : out 4 ≡ false).
      ⊎_elim (λ (e : out 5 ≡ true). inr (5, (inr (omega arith, omega arith), e)))
      (λ (five : out 5 ≡ false).
      ⊎_elim (λ (e : out 6 ≡ true). inr (6, (inr (omega arith, omega arith), e)))
      (λ (six : out 6 ≡ false). inl (each_tag (λ tag. (header_range t.head tag).out ≡ false) one four five six))
      (true_or_false (out 6)))
      (true_or_false (out 5)))
      (true_or_false (out 4)))
      (true_or_false (out 1))

  some_or_none : (k : ℕ) → NoneOut t a k ⊎ SomeOut t a k
  some_or_none k =
      let fits : ℕ → ℕ → Bool = λ i j. not (range_at t a i j).out in
      let rows : ℕ → Bool = λ i. all_below k (fits i) in
      ⊎_elim (λ header.
      ⊎_elim (λ (e : all_below t.n rows ≡ true).
      inl (record { header = header; stations = λ i j l b. not-true _ (all_at k (fits i) (all_at t.n rows e i l) j b) }))
      (λ (e : all_below t.n rows ≡ false).
      let row = fails_somewhere t.n rows e in
      let one = fails_somewhere k (fits row.0) row.1.1 in
      inr (inr (row.0, (one.0, (row.1.0, (one.1.0, not-false _ one.1.1))))))
      (true_or_false (all_below t.n rows)))
      (λ some. inr (inl some))
      header_or

  some_not_none : (k : ℕ) → SomeOut t a k → ¬ NoneOut t a k
  some_not_none k (inl (tag, (T, e))) none = true≢false (sym e ∙ none.header tag T)
  some_not_none k (inr (i, (j, (l, (b, e))))) none = true≢false (sym e ∙ none.stations i j l b)

  pub four : (judged t ≡ 4) ↔ (CountAllowed t × SomeOut t a 4)
  four = (
    λ e.
        let f = (judged_four t).0 e in
        (f.0, ⊎_elim (λ none. absurd (f.1 (none_listed.1 none))) (λ some. some) (some_or_none 4)),
    λ f. (judged_four t).1 (f.0, λ all. some_not_none 4 f.1 (none_listed.0 all)),
  )

  pub four_plan : (judged_plan t a ≡ 4) ↔ (CountAllowed t × SomeOut t a 5)
  four_plan = (
    λ e.
        let f = (given_four t a).0 e in
        (f.0, ⊎_elim (λ none. absurd (f.1 (none_listed_plan.1 none))) (λ some. some) (some_or_none 5)),
    λ f. (given_four t a).1 (f.0, λ all. some_not_none 5 f.1 (none_listed_plan.0 all)),
  )
