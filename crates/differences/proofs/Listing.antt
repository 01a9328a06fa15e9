-- What is listed of two plans: just what differs, in the order of the places.
use Prim.Native.Nat.{ℕ, ◌+◌, ◌-◌, ◌*◌, ◌≤◌, ◌<◌, min}
use mathlib.Core.Path.{◌≡◌, refl, sym, ap, subst, ◌∙◌}
use mathlib.Core.Bool.{Bool, true, false}
use mathlib.Core.List.{List, [], ◌∷◌, ◌++◌}
use mathlib.Core.Logic.{inl, inr, ◌≢◌, ⊎_elim}
use native.Mathlib.Omega.{arith}
use borrow.Author.Tests.{ltb-true, lt-ltb, le-ltb}
use lib.Dec.{ltb}
use Rattle.units.proofs.SmallLaws.{below_or_not}
use Rattle.sets.specs.declared.Set.{Set}
use Rattle.plans.specs.declared.Alloc.{Alloc}
use Rattle.differences.specs.Views.{View, HeaderTag, view_of}
use Rattle.differences.specs.Differences.{Difference, in_header, in_station, one_sided, changed, gathered, header_changed, headers_changed, station_changed, alone, alone_from, differences, Differs, position, In, Rising}
use Rattle.differences.proofs.Lists.{in_left, in_right, in_either, in_gathered, gathered_in, in_changed, changed_in, changed_rising, rising_append, rising_gathered}

-- station i is not below n
not_below : (i n : ℕ) → ltb i n ≡ false → n ≤ i
not_below i n h = ⊎_elim (λ (b : i < n). absurd (differ (sym (lt-ltb i n b) ∙ h))) (λ (b : n ≤ i). b) (below_or_not i n)
  where
    differ : true ≡ false → ⊥
    differ e = let z : ◌≡◌ {A = ℕ} 0 1 = cc e in omega arith

-- ---- any two plans

module _ (v w : View) where
  -- the header's fields
  headers_in : (d : Difference) → In d (headers_changed v.header w.header) → Differs v w d × (position d < 10)
  unfolding position
  headers_in d h =
      let one : (tag : ℕ) → HeaderTag tag → In d (header_changed v.header w.header tag) → Differs v w d × (position d < 10) =
      λ tag t i.
      let c = changed_in (in_header tag) (v.header tag) (w.header tag) d i in
      rw c.0 ((t, (refl, refl), c.1), below_ten tag t) in
      ⊎_elim (λ a. one 1 (inl refl) a)
      (λ b. let k = gathered_in d 3 (λ j. header_changed v.header w.header (4 + j)) b in one (4 + k.0) (inr (omega arith, omega (arith, k.1.0))) k.1.1)
      (in_either d (header_changed v.header w.header 1) (gathered 3 (λ k. header_changed v.header w.header (4 + k))) h)
    where
      below_ten : (tag : ℕ) → HeaderTag tag → tag < 10
      below_ten tag (inl e) = omega arith
      below_ten tag (inr e) = omega (arith, e.1)

  header_listed : (tag : ℕ) → HeaderTag tag → v.header tag ≢ w.header tag → In (in_header tag (v.header tag) (w.header tag)) (headers_changed v.header w.header)
  header_listed tag (inl e) n =
      rw e
      (in_left _ (header_changed v.header w.header 1) (gathered 3 (λ k. header_changed v.header w.header (4 + k)))
      (in_changed (in_header 1) (v.header 1) (w.header 1) (subst (λ (x : ℕ). v.header x ≢ w.header x) e n)))
  header_listed tag (inr e) n =
      let k = tag - 4 in
      let q : 4 + (tag - 4) ≡ tag = omega (arith, e.0) in
      in_right _ (header_changed v.header w.header 1) (gathered 3 (λ k. header_changed v.header w.header (4 + k)))
      (in_gathered _ 3 (tag - 4) (λ k. header_changed v.header w.header (4 + k)) (omega (arith, e.0, e.1)) (rw q (in_changed (in_header tag) (v.header tag) (w.header tag) n)))

  headers_rising : Rising (headers_changed v.header w.header)
  unfolding position
  headers_rising =
      rising_append (header_changed v.header w.header 1) (gathered 3 (λ k. header_changed v.header w.header (4 + k))) (changed_rising (in_header 1) _ _)
      (rising_gathered 3 (λ k. header_changed v.header w.header (4 + k)) (λ k. changed_rising (in_header (4 + k)) _ _)
      (λ j k d e l m a b. rw (at_tag (4 + j) d a, at_tag (4 + k) e b) (omega arith)))
      (λ d e a b. let k = gathered_in e 3 (λ j. header_changed v.header w.header (4 + j)) b in rw (at_tag 1 d a, at_tag (4 + k.0) e k.1.1) (omega arith))
    where
      at_tag : (tag : ℕ) (d : Difference) → In d (header_changed v.header w.header tag) → position d ≡ tag
      at_tag tag d h = ap position (changed_in (in_header tag) (v.header tag) (w.header tag) d h).0

  -- the numbers of a station
  module _ (i : ℕ) where
    number_at_lem : (j : ℕ) (d : Difference) → In d (changed (in_station i j) (v.number i j) (w.number i j)) → position d ≡ 10 + (5 * i + j)
    unfolding position
    number_at_lem j d h = ap position (changed_in (in_station i j) (v.number i j) (w.number i j) d h).0

    station_in_lem : (d : Difference) → v.has i ≡ true → w.has i ≡ true → In d (station_changed v.number w.number i) → Differs v w d
    station_in_lem d hv hw h =
        let k = gathered_in d 5 (λ j. changed (in_station i j) (v.number i j) (w.number i j)) h in
        let c = changed_in (in_station i k.0) (v.number i k.0) (w.number i k.0) d k.1.1 in
        rw c.0 ((hv, hw), k.1.0, (refl, refl), c.1)

    station_place : (d : Difference) → In d (station_changed v.number w.number i) → (10 + 5 * i ≤ position d) × (position d < 15 + 5 * i)
    station_place d h =
        let k = gathered_in d 5 (λ j. changed (in_station i j) (v.number i j) (w.number i j)) h in
        let e = number_at_lem k.0 d k.1.1 in
        (omega (arith, e), omega (arith, e, k.1.0))

    station_listed : (j : ℕ) → j < 5 → v.number i j ≢ w.number i j → In (in_station i j (v.number i j) (w.number i j)) (station_changed v.number w.number i)
    station_listed j l n = in_gathered _ 5 j (λ j. changed (in_station i j) (v.number i j) (w.number i j)) l (in_changed (in_station i j) (v.number i j) (w.number i j) n)

    station_rising : Rising (station_changed v.number w.number i)
    station_rising =
        rising_gathered 5 (λ j. changed (in_station i j) (v.number i j) (w.number i j)) (λ j. changed_rising (in_station i j) _ _)
        (λ j k d e l m a b. omega (arith, number_at_lem j d a, number_at_lem k e b))

-- stations that one plan alone has
module _ (new : Bool) (f : ℕ → ℕ → ℕ) (from count : ℕ) where
  alone_in : (d : Difference) → In d (alone_from new f from count) → (k : ℕ) × ((k < count) × (d ≡ alone new f (from + k)))
  alone_in d h =
      let k = gathered_in d count (λ j. alone new f (from + j) ∷ []) h in
      (k.0, (k.1.0, ⊎_elim (λ e. e) (λ z. absurd z) k.1.1))

  alone_place : (d : Difference) → In d (alone_from new f from count) → 1_000 ≤ position d
  unfolding position
  alone_place d h = let k = alone_in d h in omega (arith, ap position k.1.1)

  alone_listed : (i : ℕ) → from ≤ i → i < from + count → In (alone new f i) (alone_from new f from count)
  alone_listed i l m =
      let q : from + (i - from) ≡ i = omega arith in
      in_gathered _ count (i - from) (λ j. alone new f (from + j) ∷ []) (omega arith) (rw q (inl refl))

  alone_rising : Rising (alone_from new f from count)
  unfolding position
  alone_rising =
      rising_gathered count (λ j. alone new f (from + j) ∷ []) (λ j. (λ d i. absurd i, tt))
      (λ j k d e l m a b. omega (arith, one j d a, one k e b))
    where
      one : (j : ℕ) (d : Difference) → In d (alone new f (from + j) ∷ []) → position d ≡ 1_000 + (from + j)
      one j d (inl e) = ap position e
      one j d (inr z) = absurd z

-- ---- the plans of two sets and their allocations

module _ (t : Set) (a : Alloc) (u : Set) (b : Alloc) where
  abbrev v : View
  v = view_of t a

  abbrev w : View
  w = view_of u b

  abbrev heads : List Difference
  heads = headers_changed v.header w.header

  abbrev shared : List Difference
  shared = gathered (min t.n u.n) (station_changed v.number w.number)

  abbrev come : List Difference
  come = alone_from true w.number t.n (u.n - t.n)

  abbrev gone : List Difference
  gone = alone_from false v.number u.n (t.n - u.n)

  -- ---- what is listed differs

  shared_in : (d : Difference) → In d shared → Differs v w d
  shared_in d h =
      let k = gathered_in d (min t.n u.n) (station_changed v.number w.number) h in
      station_in_lem v w k.0 d (lt-ltb k.0 t.n (omega (arith, k.1.0))) (lt-ltb k.0 u.n (omega (arith, k.1.0))) k.1.1

  come_in : (d : Difference) → In d come → Differs v w d
  come_in d h =
      let k = alone_in true w.number t.n (u.n - t.n) d h in
      rw k.1.1 ((le-ltb (t.n + k.0) t.n (omega arith), lt-ltb (t.n + k.0) u.n (omega (arith, k.1.0))), refl)

  gone_in : (d : Difference) → In d gone → Differs v w d
  gone_in d h =
      let k = alone_in false v.number u.n (t.n - u.n) d h in
      rw k.1.1 ((lt-ltb (u.n + k.0) t.n (omega (arith, k.1.0)), le-ltb (u.n + k.0) u.n (omega arith)), refl)

  pub listed_differs : (d : Difference) → In d (differences t a u b) → Differs (view_of t a) (view_of u b) d
  listed_differs d h =
      ⊎_elim (λ x. (headers_in v w d x).0)
      (λ y.
      ⊎_elim (shared_in d)
      (λ z. ⊎_elim (come_in d) (gone_in d) (in_either d come gone z))
      (in_either d shared (come ++ gone) y))
      (in_either d heads (shared ++ (come ++ gone)) h)

  -- ---- what differs is listed

  pub differs_listed : (d : Difference) → Differs (view_of t a) (view_of u b) d → In d (differences t a u b)
  differs_listed (in_header tag old new) D =
      let n : v.header tag ≢ w.header tag = λ e. D.2 (D.1.0 ∙ e ∙ sym D.1.1) in
      rw (D.1.0, D.1.1) (in_left _ heads (shared ++ (come ++ gone)) (header_listed v w tag D.0 n))
  differs_listed (in_station i j old new) D =
      let n : v.number i j ≢ w.number i j = λ e. D.3 (D.2.0 ∙ e ∙ sym D.2.1) in
      let below : i < min t.n u.n = omega (arith, ltb-true i t.n D.0.0, ltb-true i u.n D.0.1) in
      rw (D.2.0, D.2.1)
      (in_right _ heads (shared ++ (come ++ gone))
      (in_left _ shared (come ++ gone) (in_gathered _ (min t.n u.n) i (station_changed v.number w.number) below (station_listed v w i j D.1 n))))
  differs_listed (one_sided true i p q r s x) D =
      let low = not_below i t.n D.0.0 in
      let high = ltb-true i u.n D.0.1 in
      rw D.1
      (in_right _ heads (shared ++ (come ++ gone))
      (in_right _ shared (come ++ gone) (in_left _ come gone (alone_listed true w.number t.n (u.n - t.n) i low (omega (arith, low, high))))))
  differs_listed (one_sided false i p q r s x) D =
      let low = not_below i u.n D.0.1 in
      let high = ltb-true i t.n D.0.0 in
      rw D.1
      (in_right _ heads (shared ++ (come ++ gone))
      (in_right _ shared (come ++ gone) (in_right _ come gone (alone_listed false v.number u.n (t.n - u.n) i low (omega (arith, low, high))))))

  -- ---- in the order

  -- those of one of the last two lists: the other is empty
  alone_sided : (d e : Difference) → In d come → In e gone → ⊥
  alone_sided d e x y =
      let k = alone_in true w.number t.n (u.n - t.n) d x in
      let l = alone_in false v.number u.n (t.n - u.n) e y in
      omega (arith, k.1.0, l.1.0)

  pub listed_rising : t.n ≤ 128 → u.n ≤ 128 → Rising (differences t a u b)
  listed_rising few many =
      let place : (d : Difference) → In d shared → (10 ≤ position d) × (position d < 1_000) =
      λ d h.
      let k = gathered_in d (min t.n u.n) (station_changed v.number w.number) h in
      let p = station_place v w k.0 d k.1.1 in
      (omega (arith, p.0), omega (arith, p.1, k.1.0)) in
      let last : (d : Difference) → In d (come ++ gone) → 1_000 ≤ position d =
      λ d h. ⊎_elim (alone_place true w.number t.n (u.n - t.n) d) (alone_place false v.number u.n (t.n - u.n) d) (in_either d come gone h) in
      rising_append heads (shared ++ (come ++ gone)) (headers_rising v w)
      (rising_append shared (come ++ gone)
      (rising_gathered (min t.n u.n) (station_changed v.number w.number) (station_rising v w)
      (λ j k d e l m x y. omega (arith, station_place v w j d x, station_place v w k e y)))
      (rising_append come gone (alone_rising true w.number t.n (u.n - t.n)) (alone_rising false v.number u.n (t.n - u.n)) (λ d e x y. absurd (alone_sided d e x y)))
      (λ d e x y. omega (arith, (place d x).1, last e y)))
      (λ d e x y.
      let low = (headers_in v w d x).1 in
      ⊎_elim (λ z. omega (arith, low, (place e z).0)) (λ z. omega (arith, low, last e z)) (in_either e shared (come ++ gone) y))
