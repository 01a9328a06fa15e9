-- Why no station waits long for a limit above 0. The windows before two successive visits differ by one visit that leaves and one that enters.
-- A station that is offered 0 at two visits of its own sent nothing at either. So the visit after the second has the same window as that one: it is offered 0 and sends nothing.
-- A rotation later the same is true of the visit after it, and so on. Offered 0 at N + 1 visits of its own, a station has N visits before the last of them that sent nothing; but then all of A* is offered.
use Prim.Native.Nat.{ℕ, zero, suc, ◌+◌, ◌-◌, ◌*◌, ◌≤◌, ◌<◌}
use mathlib.Core.Path.{◌≡◌, refl, sym, ap, ◌∙◌}
use mathlib.Core.List.{List, [], ◌∷◌, ◌++◌, append_assoc}
use mathlib.Core.Logic.{◌⊎◌, inl, inr, ⊎_elim}
use native.Mathlib.Nat.{zero-add, zero-mul, one-mul, suc-mul, mul_comm}
use native.Mathlib.Omega.{arith}
use lib.ListN.{length, length-append}
use Rattle.units.specs.Places.{at}
use Rattle.units.proofs.SmallLaws.{below_or_not, one_more_lem}
use Rattle.sets.specs.declared.Set.{Set}
use Rattle.plans.specs.Rules.{spare_time}
use Rattle.plans.specs.declared.Alloc.{Alloc}
use Rattle.rings.specs.declared.VisitRecord.{VisitRecord}
use Rattle.promises.specs.History.{async_of, Each, Somewhere}
use Rattle.promises.specs.Bulk.{Offered}
use Rattle.promises.proofs.Windows.{async_step, async_past, async_none}
use Rattle.promises.proofs.Lists.{each_of, somewhere_each}
use Rattle.promises.proofs.Turns.{Ago, some_time_ago, one_less_ago, own_now, own_rotation}
use Rattle.promises.proofs.Rotations.{InOrder, Soon, each_soon}

module _ (t : Set) (a : Alloc) where
  abbrev spare : ℕ
  spare = spare_time t (at a.s)

  abbrev AllInOrder : List VisitRecord → Type 0
  AllInOrder h = Each (InOrder t a) h

  -- in the N visits before the latest x all of A* was sent
  abbrev Full : ℕ → List VisitRecord → Type 0
  Full x h = spare + async_of x h ≤ async_of (t.n + x) h

  -- with one visit more they are before the latest x + 1
  one_more_full : (x y : ℕ) (v : VisitRecord) (h : List VisitRecord) → y ≡ suc x → Full x h → Full y (v ∷ h)
  unfolding async_of
  one_more_full x y v h e f = rw e (omega (arith, async_past t.n x v h))

  -- the visit after them sends nothing
  nothing_sent : (x : ℕ) (h : List VisitRecord) → AllInOrder h → Full (suc x) h → async_of (suc x) h ≡ async_of x h
  unfolding async_of
  nothing_sent x [] E full = refl
  nothing_sent zero (v ∷ h) E full =
      let L = E.0.1 in
      let none : v.asynchronous.0 ≡ 0 =
      ⊎_elim (λ (e : v.limit.0 ≡ spare - async_of t.n h). L.shut (omega (arith, async_none h, async_step t.n v h))) (λ (e : v.asynchronous.0 ≡ 0). e) L.exact in
      omega (arith, async_none h)
  nothing_sent (suc x) (v ∷ h) E full =
      omega (arith, nothing_sent x h E.1 (omega (arith, async_past t.n (suc x) v h)))

  -- the limit of a visit of station i is exact; before it were these, and the old ones
  abbrev pub OwnExact : ℕ → List VisitRecord → VisitRecord → List VisitRecord → Type 0
  OwnExact i old v before = v.station.0 ≡ i → v.limit.0 ≡ spare - async_of t.n (before ++ old)

  module _ (i : ℕ) (known : i < t.n) (old : List VisitRecord) where
    -- station i is exact at each of its visits of the list
    abbrev Exact : List VisitRecord → Type 0
    Exact since = Each (OwnExact i old) since

    -- station i had its turn e visits ago: among its visits the j-th before that one was offered a limit above 0, or all of A* was sent in the rotation before it
    full : (j e : ℕ) (since : List VisitRecord) → 1 ≤ e → e ≤ t.n → Ago t.n i e (since ++ old) → j * t.n + e ≤ length since → AllInOrder (since ++ old) → Exact since
        → Somewhere (λ v before. Offered i v) since ⊎ Full (j * t.n + e) (since ++ old)
    unfolding async_of
    full j e [] low high ago long E U = absurd (omega arith)
    full j zero (v ∷ since) low high ago long E U = absurd (omega arith)
    full zero (suc zero) (v ∷ since) low high ago long E U =
        let rest = since ++ old in
        let own = own_now t i known v rest E.0.0 (one_less_ago t i known v rest E.0.0 0 ago) in
        let exact = U.0 own in
        ⊎_elim (λ (b : 0 < v.limit.0). inl (inl (record { station = omega (arith, own); limit = omega arith })))
        (λ (b : v.limit.0 ≤ 0). inr (rw (zero-mul, zero-add) (omega (arith, exact, async_none rest, async_step t.n v rest))))
        (below_or_not 0 v.limit.0)
    full (suc j) (suc zero) (v ∷ since) low high ago long E U =
        let rest = since ++ old in
        let own = own_now t i known v rest E.0.0 (one_less_ago t i known v rest E.0.0 0 ago) in
        ⊎_elim (λ (f : Somewhere (λ v before. Offered i v) since). inl (inr f))
        (λ (f : Full (j * t.n + t.n) rest). inr (one_more_full (j * t.n + t.n) (suc j * t.n + 1) v rest (omega (arith, suc-mul j t.n)) f))
        (full j t.n since (omega arith) (omega arith) (own_rotation t i known v rest E.0.0 own) (omega (arith, suc-mul j t.n)) E.1 U.1)
    full j (suc (suc e)) (v ∷ since) low high ago long E U =
        let rest = since ++ old in
        ⊎_elim (λ (f : Somewhere (λ v before. Offered i v) since). inl (inr f))
        (λ (f : Full (j * t.n + suc e) rest). inr (one_more_full (j * t.n + suc e) (j * t.n + suc (suc e)) v rest (omega arith) f))
        (full j (suc e) since (omega arith) (omega arith) (one_less_ago t i known v rest E.0.0 (suc e) ago) (omega arith) E.1 U.1)

    -- at all of its visits up to the k-th before that one
    all_full : (k e : ℕ) (since : List VisitRecord) → 1 ≤ e → e ≤ t.n → Ago t.n i e (since ++ old) → k * t.n + e ≤ length since → AllInOrder (since ++ old) → Exact since
        → Somewhere (λ v before. Offered i v) since ⊎ ((j : ℕ) → j ≤ k → Full (j * t.n + e) (since ++ old))
    all_full zero e since low high ago long E U =
        ⊎_elim (λ (f : Somewhere (λ v before. Offered i v) since). inl f)
        (λ f. inr (λ j l. let z : j ≡ 0 = omega arith in rw z f))
        (full 0 e since low high ago long E U)
    all_full (suc k) e since low high ago long E U =
        ⊎_elim (λ (f : Somewhere (λ v before. Offered i v) since). inl f)
        (λ f.
        ⊎_elim (λ (g : Somewhere (λ v before. Offered i v) since). inl g)
        (λ g. inr (λ j l. ⊎_elim (λ (b : j < suc k). g j (omega arith)) (λ (b : suc k ≤ j). let z : j ≡ suc k = omega arith in rw z f) (below_or_not j (suc k))))
        (all_full k e since low high ago (omega (arith, suc-mul k t.n)) E U))
        (full (suc k) e since low high ago long E U)

  -- then the m visits from the j-th of them on sent nothing, as long as j and m together are at most N + 1
  module _ (h : List VisitRecord) (E : AllInOrder h) (e : ℕ) (full : (j : ℕ) → j ≤ t.n → Full (j * t.n + e) h) where
    flat : (m j z : ℕ) → 1 ≤ j → j + m ≤ t.n + 1 → z + m ≡ j * t.n + e → async_of z h ≡ async_of (j * t.n + e) h
    flat zero j z low few same = ap (λ (x : ℕ). async_of x h) (omega arith)
    flat (suc m) j z low few same =
        let here : async_of (suc z) h ≡ async_of (j * t.n + e) h = flat m j (suc z) low (omega arith) (omega arith) in
        let next : suc j * t.n ≡ j * t.n + t.n = suc-mul j t.n in
        let there : async_of (t.n + suc z) h ≡ async_of (suc j * t.n + e) h = flat m (suc j) (t.n + suc z) (omega arith) (omega arith) (omega arith) in
        let sum : suc j * t.n + e ≡ t.n + (j * t.n + e) = omega arith in
        let all = rw (← sum) at (full j (omega arith)) in
        sym (nothing_sent z h E (omega arith)) ∙ here

    -- so nothing was sent in the N visits before the latest of them, and A* is 0
    nothing_spare : 1 ≤ t.n → spare ≡ 0
    nothing_spare some =
        let last = flat t.n 1 e (omega arith) (omega arith) (omega arith) in
        let most = full 0 (omega arith) in
        omega (arith, rw one-mul at last, rw (zero-mul, zero-add) at most)

  -- N·(N + 1) visits are enough
  pub offered : (i : ℕ) → i < t.n → (old since : List VisitRecord) → 1 ≤ spare → t.n * (t.n + 1) ≤ length since → AllInOrder (since ++ old) → Each (OwnExact i old) since → Somewhere (λ v before. Offered i v) since
  offered i known old since left long E U =
      let n = t.n in
      let h = since ++ old in
      let ago = some_time_ago t i known h (each_of (λ v before k. k.0) h E) in
      let e = ago.0 in
      ⊎_elim (λ (f : Somewhere (λ v before. Offered i v) since). f)
      (λ f. absurd (omega (arith, nothing_spare h E e f (omega arith))))
      (all_full i known old n e since ago.1 ago.2 ago.3 (omega (arith, ago.2, mul_comm n (n + 1), one_more_lem n n)) E U)

-- ---- in ticks: N·(N + 1) visits make N + 1 rotations, and the one that is offered a limit above 0 starts within them

module _ (t : Set) (a : Alloc) (i : ℕ) (known : i < t.n) (left : 1 ≤ spare_time t (at a.s)) (first : VisitRecord) (old : List VisitRecord) where
  abbrev pub OfferedSoon : VisitRecord → List VisitRecord → Type 0
  OfferedSoon v before = Offered i v × Soon t a first old (t.n + 1) v before

  just_enough : (newer : List VisitRecord)
      → t.n * (t.n + 1) ≤ length newer + 1 → length newer ≤ (t.n + 1) * t.n → AllInOrder t a (newer ++ first ∷ old) → Each (OwnExact t a i old) (newer ++ first ∷ [])
      → Somewhere OfferedSoon (newer ++ first ∷ [])
  just_enough newer long few E U =
      somewhere_each (λ v before. Offered i v) (Soon t a first old (t.n + 1)) (newer ++ first ∷ [])
      (offered t a i known old (newer ++ first ∷ []) left (rw length-append (omega arith)) (rw append_assoc E) U)
      (each_soon t a first old (t.n + 1) newer few E)

  pub offered_soon : (newer : List VisitRecord) → t.n * (t.n + 1) ≤ length newer + 1 → AllInOrder t a (newer ++ first ∷ old) → Each (OwnExact t a i old) (newer ++ first ∷ []) → Somewhere OfferedSoon (newer ++ first ∷ [])
  offered_soon [] long E U = just_enough [] long (omega arith) E U
  offered_soon (v ∷ newer) long E U =
      ⊎_elim (λ (b : length newer + 1 < t.n * (t.n + 1)). just_enough (v ∷ newer) long (omega (arith, mul_comm (t.n + 1) t.n)) E U)
      (λ (b : t.n * (t.n + 1) ≤ length newer + 1). inr (offered_soon newer b E.1 U.1))
      (below_or_not (length newer + 1) (t.n * (t.n + 1)))
