-- The laws of sets, for the proofs of the layers above.
use Prim.Native.Nat.{ℕ, ◌≤◌}
use mathlib.Core.Path.{◌≡◌, refl, sym, ap, ◌∙◌}
use mathlib.Core.Bool.{Bool, true, false}
use mathlib.Core.Logic.{◌↔◌, ◌≢◌, ⊎_elim}
use native.Mathlib.Omega.{arith}
use lib.Dec.{leb}
use Rattle.units.specs.Numbers.{timely, last_mode, most_frame, most_grid, most_stations, most_ttrt, most_walk, most_c, most_d, most_p}
use Rattle.units.specs.Places.{at, sum_below, all_below}
use Rattle.units.specs.Judging.{or_else, between, Decides}
use Rattle.units.proofs.JudgingLaws.{true_or_false, held, failed, given, given_later, not_given, iff_then, iff_under, decides_le, decides_both, decides_between}
use Rattle.units.proofs.PlaceLaws.{decides_all, sum_same, all_same}
use Rattle.sets.specs.Rules.{tau, SameSet, CountAllowed, HeadInRange, StationInRange, NumbersAllowed, WalkTimeAllowed, count_allowed, head_in_range, station_in_range, in_range_at, stations_in_range, numbers_allowed, walk_time_allowed}
use Rattle.sets.specs.Judged.{judged, judged_then, judged_numbers, judged_walk}
use Rattle.sets.specs.declared.Set.{Set}
use Rattle.sets.specs.declared.Head.{Head}

-- ---- each test decides its sentence

pub decides_count : (t : Set) → Decides (count_allowed t) (CountAllowed t)
decides_count t = decides_between 1 most_stations t.n

pub decides_head : (h : Head) → Decides (head_in_range h) (HeadInRange h)
unfolding head_in_range
decides_head h =
    let two = decides_both _ _ _ _ (decides_between 1 most_ttrt h.ttrt) (decides_between timely last_mode h.mode) in
    let three = decides_both _ _ _ _ two (decides_between 1 most_frame h.frame) in
    let all = decides_both _ _ _ _ three (decides_between 1 most_grid h.grid) in (
      λ b. let f = all.0 b in record { ttrt = f.0.0.0; mode = f.0.0.1; frame = f.0.1; grid = f.1 },
      λ f. all.1 (((f.ttrt, f.mode), f.frame), f.grid),
    )

pub decides_station : (w c d p : ℕ) → Decides (station_in_range w c d p) (StationInRange w c d p)
unfolding station_in_range
decides_station w c d p =
    let d₁ = decides_both (leb w most_walk) (leb c most_c) (w ≤ most_walk) (c ≤ most_c) (decides_le w most_walk) (decides_le c most_c) in
    let d₂ = decides_both _ _ _ _ d₁ (decides_between 1 most_d d) in
    let d₃ = decides_both _ _ _ _ d₂ (decides_between d most_p p) in (
      λ h. let f = d₃.0 h in record { walk = f.0.0.0; longest = f.0.0.1; deadline = f.0.1; gap = f.1 },
      λ f. d₃.1 (((f.walk, f.longest), f.deadline), f.gap),
    )

pub decides_numbers : (t : Set) → Decides (numbers_allowed t) (NumbersAllowed t)
decides_numbers t =
    let each = decides_all t.n (in_range_at t) _ (λ i. decides_station (at t.w i) (at t.c i) (at t.d i) (at t.p i)) in
    let both = decides_both _ _ _ _ (decides_head t.head) each in (
      λ h. let f = both.0 h in record { header = f.0; stations = f.1 },
      λ f. both.1 (f.header, f.stations),
    )

pub decides_walk : (t : Set) → Decides (walk_time_allowed t) (WalkTimeAllowed t)
decides_walk t = decides_between 1 t.head.ttrt (tau t)

-- ---- what the judgement gives, test by test

pub judged_2 : (t : Set) → count_allowed t ≡ false → judged t ≡ 2
unfolding judged_then
judged_2 t h = failed _ _ _ h

pub judged_4 : (t : Set) → count_allowed t ≡ true → numbers_allowed t ≡ false → judged t ≡ 4
unfolding judged_then
judged_4 t h₂ h₄ = held _ _ _ h₂ ∙ failed _ _ _ h₄

pub judged_5 : (t : Set) → count_allowed t ≡ true → numbers_allowed t ≡ true → walk_time_allowed t ≡ false → judged t ≡ 5
unfolding judged_then
judged_5 t h₂ h₄ h₅ = held _ _ _ h₂ ∙ held _ _ _ h₄ ∙ failed _ _ _ h₅

pub judged_0 : (t : Set) → count_allowed t ≡ true → numbers_allowed t ≡ true → walk_time_allowed t ≡ true → judged t ≡ 0
unfolding judged_then
judged_0 t h₂ h₄ h₅ = held _ _ _ h₂ ∙ held _ _ _ h₄ ∙ held _ _ _ h₅

-- ---- and what the tests say where a number was not given

pub count_held : (t : Set) → judged t ≢ 2 → count_allowed t ≡ true
count_held t h = ⊎_elim (λ e. e) (λ e. absurd (h (judged_2 t e))) (true_or_false (count_allowed t))

pub numbers_held : (t : Set) → judged t ≢ 2 → judged t ≢ 4 → numbers_allowed t ≡ true
numbers_held t h₂ h₄ = ⊎_elim (λ e. e) (λ e. absurd (h₄ (judged_4 t (count_held t h₂) e))) (true_or_false (numbers_allowed t))

pub walk_held : (t : Set) → judged t ≢ 2 → judged t ≢ 4 → judged t ≢ 5 → walk_time_allowed t ≡ true
walk_held t h₂ h₄ h₅ =
    ⊎_elim (λ e. e) (λ e. absurd (h₅ (judged_5 t (count_held t h₂) (numbers_held t h₂ h₄) e))) (true_or_false (walk_time_allowed t))

-- judged 0: all is allowed, and the other way round
pub allowed : (t : Set) → (judged t ≡ 0) ↔ (CountAllowed t × (NumbersAllowed t × WalkTimeAllowed t))
unfolding judged_then
allowed t =
    iff_then (given_later _ _ 2 _ 0 (decides_count t) (omega arith))
    (iff_under
    (iff_then (given_later _ _ 4 _ 0 (decides_numbers t) (omega arith))
    (iff_under (iff_then (given_later _ _ 5 0 0 (decides_walk t) (omega arith)) ((λ h. h.0), λ w. (w, refl))))))

pub judged_two : (t : Set) → (judged t ≡ 2) ↔ ¬ CountAllowed t
unfolding judged_then
judged_two t =
    given _ _ 2 _ (decides_count t)
    (not_given _ 4 _ 2 (omega arith) (not_given _ 5 0 2 (omega arith) (omega arith)))

pub judged_four : (t : Set) → (judged t ≡ 4) ↔ (CountAllowed t × ¬ NumbersAllowed t)
unfolding judged_then
judged_four t =
    iff_then (given_later _ _ 2 _ 4 (decides_count t) (omega arith))
    (iff_under (given _ _ 4 _ (decides_numbers t) (not_given _ 5 0 4 (omega arith) (omega arith))))

pub judged_five : (t : Set) → (judged t ≡ 5) ↔ (CountAllowed t × (NumbersAllowed t × ¬ WalkTimeAllowed t))
unfolding judged_then
judged_five t =
    iff_then (given_later _ _ 2 _ 5 (decides_count t) (omega arith))
    (iff_under
    (iff_then (given_later _ _ 4 _ 5 (decides_numbers t) (omega arith))
    (iff_under (given _ _ 5 0 (decides_walk t) (omega arith)))))

-- a number of the rest is given exactly if the set is judged 0 and the rest gives it
pub judged_later : (t : Set) (rest k : ℕ) → 2 ≢ k → 4 ≢ k → 5 ≢ k → (judged_then t rest ≡ k) ↔ ((judged t ≡ 0) × (rest ≡ k))
unfolding judged_then
judged_later t rest k n₂ n₄ n₅ =
    iff_then (given_later _ _ 2 _ k (decides_count t) n₂)
    (iff_then (iff_under (iff_then (given_later _ _ 4 _ k (decides_numbers t) n₄) (iff_under (given_later _ _ 5 rest k (decides_walk t) n₅)))) (
      (λ h. ((allowed t).1 (h.0, (h.1.0, h.1.1.0)), h.1.1.1)),
      λ h. let all = (allowed t).0 h.0 in (all.0, (all.1.0, (all.1.1, h.1))),
    ))

-- a set that is judged 0 leaves it to the rest, any other keeps its number
pub judged_rest : (t : Set) (rest : ℕ) → judged t ≡ 0 → judged_then t rest ≡ rest
unfolding judged_then or_else
judged_rest t rest = go (count_allowed t) (numbers_allowed t) (walk_time_allowed t)
  where
    go : (a b c : Bool) → or_else a 2 (or_else b 4 (or_else c 5 0)) ≡ 0 → or_else a 2 (or_else b 4 (or_else c 5 rest)) ≡ rest
    go false b c h = absurd (omega arith)
    go true false c h = absurd (omega arith)
    go true true false h = absurd (omega arith)
    go true true true h = refl

pub judged_keeps : (t : Set) (rest : ℕ) → judged t ≢ 0 → judged_then t rest ≡ judged t
unfolding judged_then or_else
judged_keeps t rest = go (count_allowed t) (numbers_allowed t) (walk_time_allowed t)
  where
    go : (a b c : Bool) → or_else a 2 (or_else b 4 (or_else c 5 0)) ≢ 0 → or_else a 2 (or_else b 4 (or_else c 5 rest)) ≡ or_else a 2 (or_else b 4 (or_else c 5 0))
    go false b c h = refl
    go true false c h = refl
    go true true false h = refl
    go true true true h = absurd (h refl)

-- ---- places from N on are never looked at

pub tau_same : (a b : Set) → SameSet a b → tau a ≡ tau b
tau_same a b s = sum_same a.n (at a.w) (at b.w) s.walk ∙ ap (λ (n : ℕ). sum_below n (at b.w)) s.count

pub stations_same : (a b : Set) → SameSet a b → stations_in_range a ≡ stations_in_range b
stations_same a b s =
    all_same a.n (in_range_at a) (in_range_at b)
    (λ i l. rw (s.walk i l, s.longest i l, s.deadline i l, s.gap i l)) ∙ ap (λ (n : ℕ). all_below n (in_range_at b)) s.count

pub judged_same : (a b : Set) (rest : ℕ) → SameSet a b → judged_then a rest ≡ judged_then b rest
unfolding judged_then
judged_same a b rest s = rw (stations_same a b s, tau_same a b s, s.count, s.header)

-- ---- the judgement in two steps

-- what the count and the numbers are refused with is what the set is refused with
pub judged_early : (t : Set) → judged_numbers t ≢ 0 → judged t ≡ judged_numbers t
unfolding judged_then
judged_early t h =
    ⊎_elim
    (λ (c : count_allowed t ≡ true).
    ⊎_elim (λ (n : numbers_allowed t ≡ true). absurd (h (held _ _ _ c ∙ held _ _ _ n)))
    (λ (n : numbers_allowed t ≡ false). judged_4 t c n ∙ sym (held _ _ _ c ∙ failed _ _ _ n))
    (true_or_false (numbers_allowed t)))
    (λ (c : count_allowed t ≡ false). judged_2 t c ∙ sym (failed _ _ _ c))
    (true_or_false (count_allowed t))

-- where they are not refused, they are allowed
pub numbers_passed : (t : Set) → judged_numbers t ≡ 0 → (count_allowed t ≡ true) × (numbers_allowed t ≡ true)
numbers_passed t h =
    ⊎_elim
    (λ (c : count_allowed t ≡ true).
    ⊎_elim (λ (n : numbers_allowed t ≡ true). (c, n))
    (λ (n : numbers_allowed t ≡ false). let four : 4 ≡ 0 = sym (held _ _ _ c ∙ failed _ _ _ n) ∙ h in absurd (omega arith))
    (true_or_false (numbers_allowed t)))
    (λ (c : count_allowed t ≡ false). let two : 2 ≡ 0 = sym (failed _ _ _ c) ∙ h in absurd (omega arith))
    (true_or_false (count_allowed t))

-- and then the set is judged by its walk time
pub judged_late : (t : Set) → judged_numbers t ≡ 0 → judged t ≡ judged_walk (tau t) t.head.ttrt
unfolding judged_then
judged_late t h = let passed = numbers_passed t h in held _ _ _ passed.0 ∙ held _ _ _ passed.1

-- ---- and by its walk time

pub walk_passed : (τ ttrt : ℕ) → judged_walk τ ttrt ≡ 0 → between 1 ttrt τ ≡ true
walk_passed τ ttrt h =
    ⊎_elim (λ b. b) (λ b. let five : 5 ≡ 0 = sym (failed _ _ _ b) ∙ h in absurd (omega arith)) (true_or_false (between 1 ttrt τ))

pub walk_refused : (τ ttrt : ℕ) → judged_walk τ ttrt ≢ 0 → between 1 ttrt τ ≡ false
walk_refused τ ttrt h = ⊎_elim (λ b. absurd (h (held _ _ _ b))) (λ b. b) (true_or_false (between 1 ttrt τ))
