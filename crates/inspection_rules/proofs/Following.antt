-- One record after another: what the ring and the records are after some of them.
use Prim.Native.Nat.{ℕ, zero, suc, ◌+◌, ◌%◌, ◌^◌, ◌≤◌, ◌<◌}
use mathlib.Core.Path.{◌≡◌, refl, ap, subst, ◌∙◌}
use mathlib.Core.List.{List, [], ◌∷◌, ◌++◌}
use mathlib.Core.Logic.{◌⊎◌, inl, inr, ⊎_elim}
use mathlib.Core.Option.{Option, none, some}
use native.Mathlib.Omega.{arith}
use lib.ListN.{set}
use Rattle.units.specs.Places.{at}
use Rattle.sets.specs.declared.Set.{Set}
use Rattle.log_records.specs.declared.VisitEntry.{VisitEntry}
use Rattle.log_records.specs.declared.MarkEntry.{MarkEntry}
use Rattle.log_records.specs.declared.Entry.{Entry}
use Rattle.log_records.specs.declared.Entry.TheVariants.{Visit, Mark}
use Rattle.rings.specs.State.{Marked, Unmarked, Messages, messages_of, with_messages}
use Rattle.rings.proofs.TimerLaws.{marked_or_not}
use Rattle.rings.specs.Steps.{moved}
use Rattle.rings.specs.Marking.{switched_through, switched_in}
use Rattle.rings.proofs.MarkLaws.{ring_marked, ring_unmarked}
use Rattle.rings.specs.declared.Ring.{Ring}
use Rattle.inspection_rules.specs.Gives.{CouldVisit, Could, switched, ring_with, ring_after, GivesFrom}
use Rattle.inspection_rules.specs.Broken.{last_from, last_of, took}
use Rattle.inspection_rules.proofs.Reaching.{Reached, reached_next, reached_switched}

-- ---- the ring

-- a mark changes the messages and the marks alone
pub switched_messages : (r : Ring) (i on : ℕ) → (m : Messages) × (switched r i on ≡ with_messages m r)
unfolding switched switched_in switched_through
switched_messages r i zero = (record { rest = r.rest; arrival = r.arrival; had = r.had; mark = set r.mark i 0 }, refl)
switched_messages r i (suc k) =
    ⊎_elim (λ (on : Marked r i). (messages_of r, ring_marked r i on))
    (λ (off : Unmarked r i). (record { rest = set r.rest i 0; arrival = r.arrival; had = r.had; mark = set r.mark i 1 }, ring_unmarked r i off))
    (marked_or_not r i)

module _ (r : Ring) where
  pub set_with : (e : Entry) → (ring_with r e).set ≡ r.set
  unfolding moved
  set_with (Visit v) = refl
  set_with (Mark m) = ap (λ (q : Ring). q.set) (switched_messages r m.station m.mark).1

  pub alloc_with : (e : Entry) → (ring_with r e).alloc ≡ r.alloc
  unfolding moved
  alloc_with (Visit v) = refl
  alloc_with (Mark m) = ap (λ (q : Ring). q.alloc) (switched_messages r m.station m.mark).1

  visits_moved : (sync async : ℕ) → (moved r sync async).visits ≡ r.visits + 1
  unfolding moved
  visits_moved sync async = refl

  visits_switched : (i on : ℕ) → (switched r i on).visits ≡ r.visits
  visits_switched i on = ap (λ (q : Ring). q.visits) (switched_messages r i on).1

  pub clock_switched : (i on : ℕ) → (switched r i on).clock ≡ r.clock
  clock_switched i on = ap (λ (q : Ring). q.clock) (switched_messages r i on).1

pub ring_none : (r : Ring) → ring_after r [] ≡ r
unfolding ring_after
ring_none r = refl

pub ring_join : (r : Ring) (es fs : List Entry) → ring_after r (es ++ fs) ≡ ring_after (ring_after r es) fs
unfolding ring_after
ring_join r [] fs = refl
ring_join r (e ∷ es) fs = ring_join (ring_with r e) es fs

pub ring_one : (r : Ring) (es : List Entry) (e : Entry) → ring_after r (es ++ (e ∷ [])) ≡ ring_with (ring_after r es) e
unfolding ring_after
ring_one r es e = ring_join r es (e ∷ [])

pub ring_set : (r : Ring) (es : List Entry) → (ring_after r es).set ≡ r.set
unfolding ring_after
ring_set r [] = refl
ring_set r (e ∷ es) = ring_set (ring_with r e) es ∙ set_with r e

pub ring_alloc : (r : Ring) (es : List Entry) → (ring_after r es).alloc ≡ r.alloc
unfolding ring_after
ring_alloc r [] = refl
ring_alloc r (e ∷ es) = ring_alloc (ring_with r e) es ∙ alloc_with r e

-- ---- visits are counted, marks are not

visits_grow : (r : Ring) (es : List Entry) → r.visits ≤ (ring_after r es).visits
unfolding ring_after
visits_grow r [] = omega arith
visits_grow r (Visit v ∷ es) = omega (arith, visits_grow (moved r v.synchronous v.asynchronous) es, visits_moved r v.synchronous v.asynchronous)
visits_grow r (Mark m ∷ es) = omega (arith, visits_grow (switched r m.station m.mark) es, visits_switched r m.station m.mark)

pub last_some : (r : Ring) (o : Option VisitEntry) (es : List Entry) (b : VisitEntry) → last_from o es ≡ some b → (o ≡ some b) ⊎ (r.visits < (ring_after r es).visits)
unfolding ring_after last_from
last_some r o [] b is = inl is
last_some r o (Visit v ∷ es) b is = inr (omega (arith, visits_grow (moved r v.synchronous v.asynchronous) es, visits_moved r v.synchronous v.asynchronous))
last_some r o (Mark m ∷ es) b is =
    ⊎_elim (λ (before : o ≡ some b). inl before)
    (λ (l : (switched r m.station m.mark).visits < (ring_after (switched r m.station m.mark) es).visits). inr (omega (arith, l, visits_switched r m.station m.mark)))
    (last_some (switched r m.station m.mark) o es b is)

-- where no visit is the last, none was before, and neither the visits nor the clock have gone on
pub last_none : (r : Ring) (o : Option VisitEntry) (es : List Entry) → last_from o es ≡ none → (o ≡ none) × (((ring_after r es).visits ≡ r.visits) × ((ring_after r es).clock ≡ r.clock))
unfolding ring_after last_from
last_none r o [] is = (is, (refl, refl))
last_none r o (Visit v ∷ es) is =
    let before = (last_none (moved r v.synchronous v.asynchronous) (some v) es is).0 in
    let z : ◌≡◌ {A = ℕ} 0 1 = cc before in
    absurd (omega arith)
last_none r o (Mark m ∷ es) is =
    let w = last_none (switched r m.station m.mark) o es is in
    (w.0, (w.1.0 ∙ visits_switched r m.station m.mark, w.1.1 ∙ clock_switched r m.station m.mark))

-- one record more
pub last_visit : (o : Option VisitEntry) (es : List Entry) (v : VisitEntry) → last_from o (es ++ (Visit v ∷ [])) ≡ some v
unfolding last_from
last_visit o [] v = refl
last_visit o (Visit u ∷ es) v = last_visit (some u) es v
last_visit o (Mark m ∷ es) v = last_visit o es v

pub last_mark : (o : Option VisitEntry) (es : List Entry) (m : MarkEntry) → last_from o (es ++ (Mark m ∷ [])) ≡ last_from o es
unfolding last_from
last_mark o [] m = refl
last_mark o (Visit u ∷ es) m = last_mark (some u) es m
last_mark o (Mark n ∷ es) m = last_mark o es m

-- there is a last visit, or there is none
pub some_or_none : (o : Option VisitEntry) → ((b : VisitEntry) × (o ≡ some b)) ⊎ (o ≡ none)
some_or_none none = inr refl
some_or_none (some b) = inl (b, refl)

-- ---- what is given

module _ (counter : ℕ) where
  pub reached_with : (r : Ring) (e : Entry) → Reached r → Could counter r e → Reached (ring_with r e)
  reached_with r (Visit v) K C = reached_next counter r K v C
  reached_with r (Mark m) K C = reached_switched r K m.station m.mark

  pub gives_join : (r : Ring) (es fs : List Entry) → GivesFrom counter r es → GivesFrom counter (ring_after r es) fs → GivesFrom counter r (es ++ fs)
  unfolding ring_after
  gives_join r [] fs g h = h
  gives_join r (e ∷ es) fs g h = (g.0, gives_join (ring_with r e) es fs g.1 h)

  pub gives_split : (r : Ring) (es fs : List Entry) → GivesFrom counter r (es ++ fs) → GivesFrom counter r es × GivesFrom counter (ring_after r es) fs
  unfolding ring_after
  gives_split r [] fs g = (tt, g)
  gives_split r (e ∷ es) fs g = let w = gives_split (ring_with r e) es fs g.1 in ((g.0, w.0), w.1)

  pub gives_reaches : (r : Ring) (es : List Entry) → Reached r → GivesFrom counter r es → Reached (ring_after r es)
  unfolding ring_after
  gives_reaches r [] K g = K
  gives_reaches r (e ∷ es) K g = gives_reaches (ring_with r e) es (reached_with r e K g.0) g.1

  -- a visit and what it took lead to this ring's clock
  abbrev pub Led : Ring → Option VisitEntry → Type 0
  Led r o = (b : VisitEntry) → o ≡ some b → (counter + r.clock) % 2 ^ 32 ≡ (b.start + took r.set b) % 2 ^ 32

  led_moved : (r : Ring) (v : VisitEntry) → CouldVisit counter r v → Led (moved r v.synchronous v.asynchronous) (some v)
  unfolding moved
  led_moved r v C b is =
      let same : v ≡ b = cc is in
      let walk = ap (at r.set.w) C.station in
      rw (← same) (omega (arith, C.start, walk))

  led_switched : (r : Ring) (i on : ℕ) (o : Option VisitEntry) → Led r o → Led (switched r i on) o
  led_switched r i on o L b is =
      rw (clock_switched r i on, ap (λ (q : Ring). q.set) (switched_messages r i on).1) (L b is)

  -- the last visit does
  pub gives_last : (r : Ring) (o : Option VisitEntry) (es : List Entry) → Led r o → GivesFrom counter r es → Led (ring_after r es) (last_from o es)
  unfolding ring_after last_from
  gives_last r o [] L g = L
  gives_last r o (Visit v ∷ es) L g = gives_last (moved r v.synchronous v.asynchronous) (some v) es (led_moved r v g.0) g.1
  gives_last r o (Mark m ∷ es) L g = gives_last (switched r m.station m.mark) o es (led_switched r m.station m.mark o L) g.1

  -- a visit could be given on a ring of this set that records lead to
  abbrev pub Given : Set → Option VisitEntry → Type 0
  Given t o = (b : VisitEntry) → o ≡ some b → (q : Ring) × (Reached q × (CouldVisit counter q b × (q.set ≡ t)))

  pub last_given : (t : Set) (r : Ring) (o : Option VisitEntry) (es : List Entry) → r.set ≡ t → Reached r → Given t o → GivesFrom counter r es → Given t (last_from o es)
  unfolding last_from
  last_given t r o [] own K G g = G
  last_given t r o (Visit v ∷ es) own K G g =
      last_given t (ring_with r (Visit v)) (some v) es (set_with r (Visit v) ∙ own) (reached_with r (Visit v) K g.0)
      (λ b is. let same : v ≡ b = cc is in (r, (K, (subst (CouldVisit counter r) same g.0, own)))) g.1
  last_given t r o (Mark m ∷ es) own K G g = last_given t (ring_with r (Mark m)) o es (set_with r (Mark m) ∙ own) (reached_with r (Mark m) K g.0) G g.1

-- marks alone could be given on any recorder
pub gives_recounted : (counter other : ℕ) (r : Ring) (es : List Entry) → last_of es ≡ none → GivesFrom counter r es → GivesFrom other r es
unfolding last_from
gives_recounted counter other r [] is g = tt
gives_recounted counter other r (Visit v ∷ es) is g =
    let z : ◌≡◌ {A = ℕ} 0 1 = cc (last_none r (some v) es is).0 in
    absurd (omega arith)
gives_recounted counter other r (Mark m ∷ es) is g = (g.0, gives_recounted counter other (switched r m.station m.mark) es is g.1)
