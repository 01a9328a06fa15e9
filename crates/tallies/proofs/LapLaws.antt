-- Rotations: the records are counted, and each n visits end one.
use Rattle.std.proofs.Common.{◌≡◌, ℕ, zero, suc, ◌+◌, ◌*◌, ◌^◌, ◌<◌, ◌≤◌, List, [], ◌∷◌, ◌++◌, length, refl, ap, ◌∙◌, ⊎_elim, mod-lt, suc-mul, zero-mul, arith, le-leb}
use native.Mathlib.Nat.{mod-add-mod}
use borrow.Author.Tests.{lt-leb}
use Rattle.units.proofs.SmallLaws.{below_or_not}
use Rattle.log_records.specs.declared.VisitEntry.{VisitEntry}
use Rattle.log_records.specs.declared.Entry.{Entry}
use Rattle.log_records.specs.declared.Entry.TheVariants.{Visit, Mark}
use Rattle.tallies.specs.Laps.{wrapped, took_by, no_lap, visit_lapped, mark_lapped, lapped, lapped_all}
use Rattle.tallies.specs.Shown.{moment, visits_in}
use Rattle.tallies.specs.Promised.{LapShown}
use Rattle.tallies.specs.declared.Lap.{Lap}

module _ (n : ℕ) (w : List ℕ) where
  pub lap_append : (l : Lap) (first rest : List Entry) → lapped_all n w l (first ++ rest) ≡ lapped_all n w (lapped_all n w l first) rest
  unfolding lapped_all
  lap_append l [] rest = refl
  lap_append l (e ∷ first) rest = lap_append (lapped n w l e) first rest

  -- ---- one visit: the last one of a rotation, or not

  abbrev ended : Lap → Lap
  ended l = record { records = wrapped (l.records + 1); visits = wrapped (l.visits + 1); rotation = wrapped (l.rotation + 1); turn = 0; elapsed = 0 }

  abbrev gone_on : Lap → VisitEntry → Lap
  gone_on l v = record { records = wrapped (l.records + 1); visits = wrapped (l.visits + 1); rotation = l.rotation; turn = l.turn + 1; elapsed = wrapped (l.elapsed + took_by w v) }

  visit_ends : (l : Lap) (v : VisitEntry) → n ≤ l.turn + 1 → visit_lapped n w l v ≡ ended l
  unfolding visit_lapped
  visit_ends l v h = rw (le-leb n (l.turn + 1) h) refl

  visit_goes_on : (l : Lap) (v : VisitEntry) → l.turn + 1 < n → visit_lapped n w l v ≡ gone_on l v
  unfolding visit_lapped
  visit_goes_on l v h = rw (lt-leb n (l.turn + 1) h) refl

  -- ---- the counts

  counted : (l : Lap) (e : Entry) → (lapped n w l e).records ≡ wrapped (l.records + 1)
  counted l (Visit v) =
      ⊎_elim (λ h. ap (λ (x : Lap). x.records) (visit_goes_on l v h)) (λ h. ap (λ (x : Lap). x.records) (visit_ends l v h)) (below_or_not (l.turn + 1) n)
  counted l (Mark m) = refl

  visit_counted : (l : Lap) (v : VisitEntry) → (visit_lapped n w l v).visits ≡ wrapped (l.visits + 1)
  visit_counted l v =
      ⊎_elim (λ h. ap (λ (x : Lap). x.visits) (visit_goes_on l v h)) (λ h. ap (λ (x : Lap). x.visits) (visit_ends l v h)) (below_or_not (l.turn + 1) n)

  -- one more before the others
  one_more_of : (a b x y : ℕ) → b ≡ wrapped (a + 1) → y ≡ 1 + x → wrapped (b + x) ≡ wrapped (a + y)
  one_more_of a b x y first more = ap (λ (k : ℕ). wrapped (k + x)) first ∙ mod-add-mod (a + 1) (2 ^ 64) x ∙ ap wrapped (omega arith)

  pub records_all : (l : Lap) (es : List Entry) → l.records < 2 ^ 64 → (lapped_all n w l es).records ≡ wrapped (l.records + length es)
  unfolding lapped_all
  records_all l [] few = omega arith
  records_all l (e ∷ es) few =
      records_all (lapped n w l e) es (rw (counted l e) (mod-lt (l.records + 1) (omega arith)))
      ∙ one_more_of l.records (lapped n w l e).records (length es) (length (e ∷ es)) (counted l e) (omega arith)

  visits_all : (l : Lap) (es : List Entry) → l.visits < 2 ^ 64 → (lapped_all n w l es).visits ≡ wrapped (l.visits + visits_in es)
  unfolding lapped_all visits_in
  visits_all l [] few = omega arith
  visits_all l (Visit v ∷ es) few =
      visits_all (visit_lapped n w l v) es (rw (visit_counted l v) (mod-lt (l.visits + 1) (omega arith)))
      ∙ one_more_of l.visits (visit_lapped n w l v).visits (visits_in es) (1 + visits_in es) (visit_counted l v) refl
  visits_all l (Mark m ∷ es) few = visits_all (mark_lapped l) es few

  -- ---- whole rotations

  -- before the first visit of a rotation no time has passed
  record Begun (l : Lap) : Type 0 where
    turns : l.turn < n
    small : l.rotation < 2 ^ 64
    fresh : l.turn ≡ 0 → l.elapsed ≡ 0

  -- the lap r stands q rotations behind this one, at the end of the last
  record Ended (rotation : ℕ) (r : Lap) (q : ℕ) : Type 0 where
    rotations : r.rotation ≡ wrapped (rotation + q)
    turn : r.turn ≡ 0
    elapsed : r.elapsed ≡ 0

  one_rotation : (rotation : ℕ) (r : Lap) (q : ℕ) → Ended (wrapped (rotation + 1)) r q → Ended rotation r (suc q)
  one_rotation rotation r q e =
      record {
        rotations = e.rotations ∙ one_more_of rotation (wrapped (rotation + 1)) q (suc q) refl (omega arith);
        turn = e.turn;
        elapsed = e.elapsed;
      }

  whole_rotations_lem : (l : Lap) (es : List Entry) (q : ℕ) → Begun l → l.turn + visits_in es ≡ q * n → Ended l.rotation (lapped_all n w l es) q
  unfolding lapped_all visits_in
  whole_rotations_lem l [] zero b h =
      let none : l.turn ≡ 0 = omega (arith, zero-mul n) in
      record { rotations = omega (arith, b.small); turn = none; elapsed = b.fresh none }
  whole_rotations_lem l [] (suc q) b h = absurd (omega (arith, suc-mul q n, b.turns))
  whole_rotations_lem l (Visit v ∷ es) zero b h = absurd (omega (arith, zero-mul n))
  whole_rotations_lem l (Visit v ∷ es) (suc q) b h =
      ⊎_elim
      (λ (below : l.turn + 1 < n).
      rw (visit_goes_on l v below)
      (whole_rotations_lem (gone_on l v) es (suc q) (record { turns = below; small = b.small; fresh = λ z. absurd (omega arith) }) (omega arith)))
      (λ (last : n ≤ l.turn + 1).
      rw (visit_ends l v last)
      (one_rotation l.rotation (lapped_all n w (ended l) es) q
      (whole_rotations_lem (ended l) es q (record { turns = omega (arith, b.turns); small = mod-lt (l.rotation + 1) (omega arith); fresh = λ z. refl })
      (omega (arith, suc-mul q n, b.turns)))))
      (below_or_not (l.turn + 1) n)
  whole_rotations_lem l (Mark m ∷ es) q b h = whole_rotations_lem (mark_lapped l) es q (record { turns = b.turns; small = b.small; fresh = b.fresh }) h

  -- ---- and some visits more

  record GoneOn (l r : Lap) (es : List Entry) : Type 0 where
    rotation : r.rotation ≡ l.rotation
    turn : r.turn ≡ l.turn + visits_in es
    elapsed : r.elapsed ≡ wrapped (l.elapsed + moment w es)

  more_visits : (l : Lap) (es : List Entry) → l.turn + visits_in es < n → l.elapsed < 2 ^ 64 → GoneOn l (lapped_all n w l es) es
  unfolding lapped_all visits_in moment
  more_visits l [] few small = record { rotation = refl; turn = omega arith; elapsed = omega arith }
  more_visits l (Visit v ∷ es) few small =
      let g = more_visits (gone_on l v) es (omega arith) (mod-lt (l.elapsed + took_by w v) (omega arith)) in
      rw (visit_goes_on l v (omega arith)) record {
        rotation = g.rotation;
        turn = omega (arith, g.turn);
        elapsed = g.elapsed ∙ mod-add-mod (l.elapsed + took_by w v) (2 ^ 64) (moment w es) ∙ ap wrapped (omega arith);
      }
  more_visits l (Mark m ∷ es) few small =
      let g = more_visits (mark_lapped l) es few small in
      record { rotation = g.rotation; turn = g.turn; elapsed = g.elapsed }

  -- ---- from the first record on

  pub lap_shown : (before during : List Entry) (q : ℕ) → 1 ≤ n → visits_in before ≡ q * n → visits_in during < n → LapShown n w before during q
  lap_shown before during q some whole rest =
      let l = lapped_all n w no_lap before in
      let e : Ended 0 (lapped_all n w no_lap before) q = whole_rotations_lem no_lap before q (record { turns = some; small = omega arith; fresh = λ z. refl }) (omega arith) in
      let g : GoneOn (lapped_all n w no_lap before) (lapped_all n w (lapped_all n w no_lap before) during) during = more_visits l during (omega (arith, e.turn)) (omega (arith, e.elapsed)) in
      record {
        records = records_all no_lap (before ++ during) (omega arith) ∙ ap wrapped (omega arith);
        visits = visits_all no_lap (before ++ during) (omega arith) ∙ ap wrapped (omega arith);
        rotation = rw (lap_append no_lap before during) (g.rotation ∙ e.rotations ∙ ap wrapped (omega arith));
        turn = rw (lap_append no_lap before during) (omega (arith, g.turn, e.turn));
        elapsed = rw (lap_append no_lap before during) (g.elapsed ∙ ap wrapped (omega (arith, e.elapsed)));
      }
