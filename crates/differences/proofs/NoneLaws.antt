-- When a list of differences has nothing in it, part by part, for the proofs of what compares two plans. No rule stands here.
use Prim.Native.Nat.{ℕ, ◌+◌, ◌-◌, ◌≤◌, ◌<◌, min}
use mathlib.Core.Path.{◌≡◌, refl, sym, ap, ◌∙◌}
use mathlib.Core.Bool.{Bool, true, false, ◌&&◌, and-true, and-false, false≢true}
use mathlib.Core.List.{List, [], ◌∷◌, ◌++◌}
use mathlib.Core.Logic.{⊎_elim}
use native.Mathlib.Numerals.{add-one}
use native.Mathlib.Omega.{arith}
use borrow.Author.Tests.{eqb-true, eq-eqb, ne_eqb}
use lib.Dec.{eqb}
use Rattle.units.proofs.SmallLaws.{below_or_not}
use Rattle.units.proofs.JudgingLaws.{true_or_false, and-true as both_true}
use Rattle.units.specs.Places.{at}
use Rattle.sets.specs.declared.Head.{Head}
use Rattle.sets.specs.declared.Set.{Set}
use Rattle.sets.specs.Header.{head_number}
use Rattle.plans.specs.declared.Alloc.{Alloc}
use Rattle.differences.specs.Views.{nth_of, header_of, number_of}
use Rattle.differences.specs.Differences.{Difference, in_header, in_station, changed, gathered, headers_changed, header_changed, station_changed, alone, alone_from, differences, is_none}

-- ---- nothing

pub is_none_lem : (ds : List Difference) → is_none ds ≡ true → ds ≡ []
unfolding is_none
is_none_lem [] e = refl
is_none_lem (d ∷ ds) e = absurd (false≢true e)

pub none_is : (ds : List Difference) → ds ≡ [] → is_none ds ≡ true
unfolding is_none
none_is ds e = rw e refl

-- ---- parts

pub none_append : (xs ys : List Difference) → is_none (xs ++ ys) ≡ (is_none xs && is_none ys)
unfolding is_none
none_append [] ys = refl
none_append (x ∷ xs) ys = refl

pub none_changed : (make : ℕ → ℕ → Difference) (old new : ℕ) → is_none (changed make old new) ≡ eqb old new
unfolding is_none changed
none_changed make old new =
    ⊎_elim (λ (e : eqb old new ≡ true). rw e refl) (λ (e : eqb old new ≡ false). rw e refl) (true_or_false (eqb old new))

pub none_begun : (f : ℕ → List Difference) → is_none (gathered 0 f) ≡ true
unfolding is_none gathered
none_begun f = refl

pub none_step : (n : ℕ) (f : ℕ → List Difference) → is_none (gathered (n + 1) f) ≡ (is_none (gathered n f) && is_none (f n))
unfolding gathered
none_step n f = rw add-one (none_append (gathered n f) (f n))

-- three, and five, of them
none_three : (f : ℕ → List Difference) → is_none (gathered 3 f) ≡ ((is_none (f 0) && is_none (f 1)) && is_none (f 2))
none_three f = none_step 2 f ∙ ap (λ (z : Bool). z && is_none (f 2)) (none_step 1 f ∙ ap (λ (z : Bool). z && is_none (f 1)) (none_step 0 f ∙ ap (λ (z : Bool). z && is_none (f 0)) (none_begun f)))

none_five : (f : ℕ → List Difference) → is_none (gathered 5 f) ≡ ((((is_none (f 0) && is_none (f 1)) && is_none (f 2)) && is_none (f 3)) && is_none (f 4))
none_five f = none_step 4 f ∙ ap (λ (z : Bool). z && is_none (f 4)) (none_step 3 f ∙ ap (λ (z : Bool). z && is_none (f 3)) (none_three f))

-- ---- the header's four, and a station's five

pub none_header : (h k : Head) → is_none (headers_changed (header_of h) (header_of k)) ≡ (eqb h.ttrt k.ttrt && ((eqb h.mode k.mode && eqb h.frame k.frame) && eqb h.grid k.grid))
unfolding header_of head_number
none_header h k =
    let f : ℕ → List Difference = λ j. header_changed (header_of h) (header_of k) (4 + j) in
    none_append (header_changed (header_of h) (header_of k) 1) (gathered 3 f)
    ∙ rw (none_three f, none_changed (in_header 1), none_changed (in_header 4), none_changed (in_header 5), none_changed (in_header 6)) refl

module _ (t : Set) (a : Alloc) (u : Set) (b : Alloc) where
  -- station i, compared
  abbrev changed_at : ℕ → List Difference
  changed_at i = station_changed (number_of t a) (number_of u b) i

  pub none_station : (i : ℕ)
      → is_none (station_changed (number_of t a) (number_of u b) i)
      ≡ ((((eqb (at t.w i) (at u.w i) && eqb (at t.c i) (at u.c i)) && eqb (at t.d i) (at u.d i)) && eqb (at t.p i) (at u.p i)) && eqb (at a.s i) (at b.s i))
  unfolding nth_of
  none_station i =
      none_five _
      ∙ rw (none_changed (in_station i 0), none_changed (in_station i 1), none_changed (in_station i 2), none_changed (in_station i 3), none_changed (in_station i 4)) refl

  -- ---- both plans

  -- of stations that one plan alone has
  alone_none : (new : Bool) (f : ℕ → ℕ → ℕ) (i : ℕ) → is_none (alone_from new f i 0) ≡ true
  alone_none new f i = none_begun _

  alone_some : (new : Bool) (f : ℕ → ℕ → ℕ) (i k : ℕ) → is_none (alone_from new f i (k + 1)) ≡ false
  unfolding is_none
  alone_some new f i k = none_step k (λ j. alone new f (i + j) ∷ []) ∙ and-false (is_none (alone_from new f i k))

  four : (xs ys zs ws : List Difference) → is_none (xs ++ (ys ++ (zs ++ ws))) ≡ (is_none xs && (is_none ys && (is_none zs && is_none ws)))
  four xs ys zs ws = none_append xs (ys ++ (zs ++ ws)) ∙ rw (none_append ys (zs ++ ws), none_append zs ws) refl

  pub none_plan : is_none (differences t a u b) ≡ (is_none (headers_changed (header_of t.head) (header_of u.head)) && (eqb t.n u.n && is_none (gathered t.n changed_at)))
  none_plan =
      four (headers_changed (header_of t.head) (header_of u.head)) (gathered (min t.n u.n) changed_at) (alone_from true (number_of u b) t.n (u.n - t.n))
      (alone_from false (number_of t a) u.n (t.n - u.n))
      ∙ ap (λ (z : Bool). is_none (headers_changed (header_of t.head) (header_of u.head)) && z) ends
    where
      ends : (is_none (gathered (min t.n u.n) changed_at) && (is_none (alone_from true (number_of u b) t.n (u.n - t.n)) && is_none (alone_from false (number_of t a) u.n (t.n - u.n))))
          ≡ (eqb t.n u.n && is_none (gathered t.n changed_at))
      ends =
          ⊎_elim
          (λ (less : t.n < u.n).
          let e : u.n - t.n ≡ u.n - t.n - 1 + 1 = omega arith in
          rw (e, alone_some true (number_of u b) t.n (u.n - t.n - 1), ne_eqb t.n u.n (λ z. omega arith)) (and-false (is_none (gathered (min t.n u.n) changed_at))))
          (λ (not-less : u.n ≤ t.n).
          ⊎_elim
          (λ (more : u.n < t.n).
          let e : t.n - u.n ≡ t.n - u.n - 1 + 1 = omega arith in
          rw (e, alone_some false (number_of t a) u.n (t.n - u.n - 1), ne_eqb t.n u.n (λ z. omega arith), and-false (is_none (alone_from true (number_of u b) t.n (u.n - t.n))))
          (and-false (is_none (gathered (min t.n u.n) changed_at))))
          (λ (not_more : t.n ≤ u.n).
          let same : t.n ≡ u.n = omega arith in
          let none : u.n - t.n ≡ 0 = omega arith in
          let gone : t.n - u.n ≡ 0 = omega arith in
          let all : min t.n u.n ≡ t.n = omega arith in
          rw (none, gone, all, alone_none true (number_of u b) t.n, alone_none false (number_of t a) u.n, eq-eqb t.n u.n same) (and-true (is_none (gathered t.n changed_at))))
          (below_or_not u.n t.n))
          (below_or_not t.n u.n)

  pub none_count : is_none (differences t a u b) ≡ true → t.n ≡ u.n
  none_count none =
      let stations = eqb t.n u.n && is_none (gathered t.n changed_at) in
      let same = (both_true (is_none (headers_changed (header_of t.head) (header_of u.head))) stations (sym none_plan ∙ none)).1 in
      eqb-true t.n u.n (both_true (eqb t.n u.n) (is_none (gathered t.n changed_at)) same).0
