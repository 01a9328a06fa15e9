-- How many visits ago a station had its turn. The stations come in turn, so whose turn it is tells it, and each visit more makes it one more.
use Prim.Native.Nat.{ℕ, zero, suc, ◌+◌, ◌-◌, ◌≤◌, ◌<◌}
use mathlib.Core.Path.{◌≡◌, sym, ap, ◌∙◌}
use mathlib.Core.List.{List, [], ◌∷◌}
use mathlib.Core.Logic.{◌⊎◌, inl, inr, ◌≢◌, ⊎_elim}
use mathlib.Core.Option.{some}
use native.Mathlib.Omega.{arith}
use borrow.Author.Tests.{eq-eqb, ne_eqb}
use Rattle.units.proofs.SmallLaws.{below_or_not}
use Rattle.sets.specs.declared.Set.{Set}
use Rattle.rings.specs.Timers.{lead}
use Rattle.rings.proofs.TimerLaws.{lead_all, lead_none, earlier_or_not}
use Rattle.rings.specs.declared.VisitRecord.{VisitRecord}
use Rattle.promises.specs.History.{async_of, latest, visit_of, latest_of, due, Each}
use Rattle.promises.specs.Valid.{InTurn}
use Rattle.promises.proofs.Windows.{own, async_none}
use Rattle.promises.proofs.Course.{following_is, latest_here, latest_there}

-- of n stations, station i had its turn e visits ago, or would have had it
abbrev pub Ago : ℕ → ℕ → ℕ → List VisitRecord → Type 0
Ago n i e h = (due n h ≡ i + e) ⊎ (due n h + n ≡ i + e)

module _ (t : Set) where
  abbrev GoesOn : VisitRecord → List VisitRecord → Type 0
  GoesOn v h = (v.station.0 + 1 < t.n) × (due t.n (v ∷ h) ≡ v.station.0 + 1)

  abbrev Wraps : VisitRecord → List VisitRecord → Type 0
  Wraps v h = (v.station.0 + 1 ≡ t.n) × (due t.n (v ∷ h) ≡ 0)

  -- after a visit it is the next station's turn, or station 0's
  due_after : (v : VisitRecord) (h : List VisitRecord) → InTurn t v h → GoesOn v h ⊎ Wraps v h
  unfolding due
  due_after v h T = following_is t.n v.station.0 T.station

  due_small : 1 ≤ t.n → (h : List VisitRecord) → Each (InTurn t) h → due t.n h < t.n
  unfolding due
  due_small any [] E = omega arith
  due_small any (v ∷ h) E =
      ⊎_elim (λ (b : GoesOn v h). omega arith) (λ (b : Wraps v h). omega arith) (due_after v h E.0)

  module _ (i : ℕ) (known : i < t.n) where
    abbrev Was : ℕ → List VisitRecord → Type 0
    Was e h = Ago t.n i e h

    -- within a rotation it had its turn
    pub some_time_ago : (h : List VisitRecord) → Each (InTurn t) h → (e : ℕ) × (1 ≤ e) × (e ≤ t.n) × Was e h
    some_time_ago h E =
        ⊎_elim (λ (b : i < due t.n h). (due t.n h - i, omega arith, omega (arith, due_small (omega arith) h E), inl (omega arith)))
        (λ (b : due t.n h ≤ i). (due t.n h + t.n - i, omega arith, omega arith, inr (omega arith)))
        (below_or_not i (due t.n h))

    module _ (v : VisitRecord) (h : List VisitRecord) (T : InTurn t v h) where
      -- a visit more
      pub one_more_ago : (e : ℕ) → e < t.n → Was e h → Was (suc e) (v ∷ h)
      one_more_ago e l =
          ⊎_elim (λ (w : due t.n h ≡ i + e).
          ⊎_elim (λ (b : GoesOn v h). inl (omega (arith, T.turn))) (λ (b : Wraps v h). inr (omega (arith, T.turn))) (due_after v h T))
          (λ (w : due t.n h + t.n ≡ i + e).
          ⊎_elim (λ (b : GoesOn v h). inr (omega (arith, T.turn))) (λ (b : Wraps v h). absurd (omega (arith, T.turn))) (due_after v h T))

      -- a visit less
      pub one_less_ago : (e : ℕ) → Was (suc e) (v ∷ h) → Was e h
      one_less_ago e =
          ⊎_elim (λ (w : due t.n (v ∷ h) ≡ i + suc e).
          ⊎_elim (λ (b : GoesOn v h). inl (omega (arith, T.turn))) (λ (b : Wraps v h). absurd (omega arith)) (due_after v h T))
          (λ (w : due t.n (v ∷ h) + t.n ≡ i + suc e).
          ⊎_elim (λ (b : GoesOn v h). inr (omega (arith, T.turn))) (λ (b : Wraps v h). inl (omega (arith, T.turn))) (due_after v h T))

      -- the visit is its own exactly if it had its turn just a rotation before, which is now again
      pub own_now : Was 0 h → v.station.0 ≡ i
      own_now = ⊎_elim (λ (w : due t.n h ≡ i + 0). omega (arith, T.turn)) (λ (w : due t.n h + t.n ≡ i + 0). absurd (omega arith))

      pub own_rotation : v.station.0 ≡ i → Was t.n h
      own_rotation e = inr (omega (arith, T.turn))

      pub rotation_now : Was t.n h → Was 0 h
      rotation_now = ⊎_elim (λ (w : due t.n h ≡ i + t.n). absurd (omega (arith, T.turn, T.station))) (λ (w : due t.n h + t.n ≡ i + t.n). inl (omega arith))

      pub not_own : (e : ℕ) → 1 ≤ e → e < t.n → Was e h → v.station.0 ≢ i
      not_own e l k = ⊎_elim (λ (w : due t.n h ≡ i + e). omega (arith, T.turn)) (λ (w : due t.n h + t.n ≡ i + e). omega (arith, T.turn))

    -- what its latest visit sent is in the window of all visits since its turn, and in no shorter one
    own_sent : (h : List VisitRecord) → Each (InTurn t) h → (e : ℕ) → e < t.n → Was (suc e) h → (u : VisitRecord) → latest_of i h ≡ some u
        → async_of (suc e) h ≡ u.asynchronous.0 + async_of e h
    unfolding async_of latest
    own_sent [] E e l w u is = let z : ◌≡◌ {A = ℕ} 0 1 = cc is in absurd (omega arith)
    own_sent (v ∷ h) E zero l w u is =
        let here = own_now v h E.0 (one_less_ago v h E.0 0 w) in
        let same : v ≡ u = cc (is, latest_here (visit_of i) v h (eq-eqb v.station.0 i here)) in
        rw (ap (λ (x : VisitRecord). x.asynchronous.0) same) (omega (arith, async_none h))
    own_sent (v ∷ h) E (suc e) l w u is =
        let before = one_less_ago v h E.0 (suc e) w in
        let other = not_own v h E.0 (suc e) (omega arith) l before in
        let there = latest_there (visit_of i) v h (ne_eqb v.station.0 i other) in
        omega (arith, own_sent h E.1 e (omega arith) before u (sym there ∙ is))

    -- so where the timer's window is one visit shorter, that visit's asynchronous time is left over
    pub own_left : (h : List VisitRecord) → Each (InTurn t) h → (u : VisitRecord) → latest_of i h ≡ some u → (e : ℕ) → 1 ≤ e → e ≤ t.n → Was e h
        → lead t u.asynchronous.0 + async_of (e - own t) h ≤ async_of e h
    own_left h E u is zero low high w = absurd (omega arith)
    own_left h E u is (suc e) low high w =
        let less : suc e - 1 ≡ e = omega arith in
        let same : suc e - 0 ≡ suc e = omega arith in
        ⊎_elim (λ y. rw (lead_all t y 1, lead_all t y u.asynchronous.0, less) (omega (arith, own_sent h E e (omega arith) w u is)))
        (λ n. rw (lead_none t n 1, lead_none t n u.asynchronous.0, same) (omega arith))
        (earlier_or_not t)
