-- What is read off records that could be given is what the ring and its history say: the moment is the clock, and the latest visit, the asynchronous time and the ends of synchronous parts are the records'.
use Prim.Native.Nat.{ℕ, ◌+◌, ◌*◌, ◌≤◌, ◌<◌}
use mathlib.Core.Path.{◌≡◌, refl, sym, ap, ◌∙◌}
use mathlib.Core.List.{List, [], ◌∷◌, ◌++◌}
use mathlib.Core.Logic.{◌≢◌, ⊎_elim}
use mathlib.Core.Option.{some}
use native.Mathlib.Omega.{arith}
use borrow.Author.Tests.{eq-eqb, ne_eqb}
use Rattle.units.specs.Places.{at}
use Rattle.units.proofs.SmallLaws.{one_more_lem}
use Rattle.sets.specs.declared.Set.{Set}
use Rattle.plans.specs.declared.Alloc.{Alloc}
use Rattle.log_records.specs.declared.VisitEntry.{VisitEntry}
use Rattle.log_records.specs.declared.Entry.{Entry}
use Rattle.log_records.specs.declared.Entry.TheVariants.{Visit, Mark}
use Rattle.rings.specs.Timers.{Fddi}
use Rattle.rings.specs.Steps.{moved, record_of}
use Rattle.rings.specs.declared.Ring.{Ring}
use Rattle.rings.specs.declared.VisitRecord.{VisitRecord}
use Rattle.promises.specs.History.{async_of, sync_start_of, visit_of, latest_of}
use Rattle.promises.specs.Facts.{timing}
use Rattle.promises.proofs.Windows.{async_step}
use Rattle.promises.proofs.Course.{Plan, same_or_not, latest_here, latest_there}
use Rattle.promises.proofs.Timing.{not_late_here}
use Rattle.inspection_rules.specs.Gives.{CouldVisit, ring_with, ring_after, GivesFrom}
use Rattle.inspection_rules.proofs.Reaching.{made}
use Rattle.inspection_rules.proofs.Following.{set_with, switched_messages, clock_switched}
use Rattle.accepted_log_rules.specs.Shows.{moment, visits_in, visits_of, async_in}
use Rattle.accepted_log_rules.proofs.Told.{told_with, told, GoesBy, timed, facts, timer_facts, goes_with}

-- ---- the moment

pub moment_join : (t : Set) (es fs : List Entry) → moment t (es ++ fs) ≡ moment t es + moment t fs
unfolding moment
moment_join t [] fs = omega arith
moment_join t (Visit v ∷ es) fs = omega (arith, moment_join t es fs)
moment_join t (Mark m ∷ es) fs = moment_join t es fs

-- the clock has gone on by what the visits took
pub clock_after_lem : (t : Set) (counter : ℕ) (r : Ring) (es : List Entry) → r.set ≡ t → GivesFrom counter r es → (ring_after r es).clock ≡ r.clock + moment t es
unfolding ring_after moment moved
clock_after_lem t counter r [] own g = omega arith
clock_after_lem t counter r (Visit v ∷ es) own g =
    let walk : at t.w v.station ≡ at r.set.w r.token = rw own (ap (at t.w) g.0.station) in
    omega (arith, clock_after_lem t counter (ring_with r (Visit v)) es own g.1, walk)
clock_after_lem t counter r (Mark m ∷ es) own g =
    omega (arith, clock_after_lem t counter (ring_with r (Mark m)) es (set_with r (Mark m) ∙ own) g.1, clock_switched r m.station m.mark)

-- ---- the latest visit of a station

module _ (i : ℕ) where
  -- the visit is its own, or it is not
  count_own : (v : VisitEntry) (es : List Entry) → v.station ≡ i → visits_of i (Visit v ∷ es) ≡ visits_of i es + 1
  unfolding visits_of
  count_own v es e = rw (eq-eqb v.station i e) (omega arith)

  count_other : (v : VisitEntry) (es : List Entry) → v.station ≢ i → visits_of i (Visit v ∷ es) ≡ visits_of i es
  unfolding visits_of
  count_other v es d = rw (ne_eqb v.station i d) (omega arith)

  module _ (counter : ℕ) (r : Ring) (h : List VisitRecord) (v : VisitEntry) (C : CouldVisit counter r v) where
    pub latest_own : v.station ≡ i → latest_of i (made r v ∷ h) ≡ some (made r v)
    unfolding record_of
    latest_own e = latest_here (visit_of i) (made r v) h (eq-eqb r.token i (sym C.station ∙ e))

    latest_other : v.station ≢ i → latest_of i (made r v ∷ h) ≡ latest_of i h
    unfolding record_of
    latest_other d = latest_there (visit_of i) (made r v) h (ne_eqb r.token i (λ e. d (C.station ∙ e)))

  pub latest_after : (counter : ℕ) (r : Ring) (h : List VisitRecord) (es : List Entry) → GivesFrom counter r es → visits_of i es ≡ 0 → latest_of i (told r es h) ≡ latest_of i h
  unfolding told told_with visits_of
  latest_after counter r h [] g z = refl
  latest_after counter r h (Visit v ∷ es) g z =
      ⊎_elim (λ (e : v.station ≡ i). absurd (omega (arith, z, count_own v es e)))
      (λ (d : v.station ≢ i).
      latest_after counter (ring_with r (Visit v)) (made r v ∷ h) es g.1 (sym (count_other v es d) ∙ z) ∙ latest_other counter r h v g.0 d)
      (same_or_not v.station i)
  latest_after counter r h (Mark m ∷ es) g z = latest_after counter (ring_with r (Mark m)) h es g.1 z

-- ---- the asynchronous time

-- a window that holds these visits, and k of those before
pub async_after : (k : ℕ) (r : Ring) (h : List VisitRecord) (es : List Entry) → async_of (k + visits_in es) (told r es h) ≡ async_of k h + async_in es
unfolding told told_with visits_in async_in record_of
async_after k r h [] = let d : k + 0 ≡ k = omega arith in rw d (omega arith)
async_after k r h (Visit v ∷ es) =
    let d : k + (visits_in es + 1) ≡ k + 1 + visits_in es = omega arith in
    rw d (omega (arith, async_after (k + 1) (ring_with r (Visit v)) (made r v ∷ h) es, async_step k (made r v) h))
async_after k r h (Mark m ∷ es) = async_after k (ring_with r (Mark m)) h es

-- ---- the synchronous parts of a station

-- the latest one ended by this moment; s is still what it sent
pub record Ended (t : Set) (i : ℕ) (r : Ring) (h : List VisitRecord) (by : ℕ) : Type 0 where
  pub latest : VisitRecord
  pub is : latest_of i h ≡ some latest
  pub sent : at r.sent i ≡ latest.synchronous.0
  pub ended : sync_start_of t latest + latest.synchronous.0 ≤ by

module _ (t : Set) (a : Alloc) (P : Plan t a) (timely : ¬ Fddi t) (counter i : ℕ) (known : i < t.n) where
  module _ (r : Ring) (h : List VisitRecord) (G : GoesBy t a r h) (v : VisitEntry) (C : CouldVisit counter r v) where
    abbrev here : Type 0
    here = v.station ≡ i

    -- the next one begins by TTRT − S behind that
    pub begins_by : here → (by : ℕ) → Ended t i r h by → sync_start_of t (made r v) + at a.s i ≤ by + t.head.ttrt
    unfolding record_of
    begins_by e by E =
        let T = timed t a r h G timely in
        let F = facts t a r h G counter v C in
        let M = timer_facts t a r h G counter v C timely in
        let own : r.token ≡ i = sym C.station ∙ e in
        let soon = not_late_here t a (timing r) (timing (ring_with r (Visit v))) (made r v) h P T F M in
        omega (arith, soon, ap (at r.trt) own, ap (at a.s) own, ap (at r.sent) own, T.since i known E.latest E.is, E.sent, E.ended)

    ended_own : here → (by : ℕ) → Ended t i r h by → Ended t i (ring_with r (Visit v)) (made r v ∷ h) (by + t.head.ttrt)
    unfolding record_of
    ended_own e by E =
        let F = facts t a r h G counter v C in
        let own : r.token ≡ i = sym C.station ∙ e in
        record {
          latest = made r v;
          is = latest_own i counter r h v C e;
          sent = rw (← own) F.sent_here;
          ended = omega (arith, begins_by e by E, F.within, ap (at a.s) own);
        }

    ended_other : ¬ here → (by : ℕ) → Ended t i r h by → Ended t i (ring_with r (Visit v)) (made r v ∷ h) by
    ended_other d by E =
        let F = facts t a r h G counter v C in
        record {
          latest = E.latest;
          is = latest_other i counter r h v C d ∙ E.is;
          sent = F.sent_there i (λ e. d (C.station ∙ sym e)) ∙ E.sent;
          ended = E.ended;
        }

  -- each of its visits moves that moment on by TTRT at most
  pub ended_after : (r : Ring) (h : List VisitRecord) (es : List Entry) (by : ℕ) → GoesBy t a r h → GivesFrom counter r es → Ended t i r h by
      → Ended t i (ring_after r es) (told r es h) (by + visits_of i es * t.head.ttrt)
  unfolding ring_after told told_with visits_of
  ended_after r h [] by G g E = record { latest = E.latest; is = E.is; sent = E.sent; ended = omega (arith, E.ended) }
  ended_after r h (Visit v ∷ es) by G g E =
      ⊎_elim (λ (e : v.station ≡ i).
      let one = count_own i v es e in
      let all : by + t.head.ttrt + visits_of i es * t.head.ttrt ≡ by + visits_of i (Visit v ∷ es) * t.head.ttrt = rw one (omega (arith, one_more_lem (visits_of i es) t.head.ttrt)) in
      rw all at (ended_after (ring_with r (Visit v)) (made r v ∷ h) es (by + t.head.ttrt) (goes_with t a counter r h (Visit v) G g.0) g.1 (ended_own r h G v g.0 e by E)))
      (λ (d : v.station ≢ i).
      rw (count_other i v es d)
      (ended_after (ring_with r (Visit v)) (made r v ∷ h) es by (goes_with t a counter r h (Visit v) G g.0) g.1 (ended_other r h G v g.0 d by E)))
      (same_or_not v.station i)
  ended_after r h (Mark m ∷ es) by G g E =
      let same = ap (λ (q : Ring). at q.sent i) (switched_messages r m.station m.mark).1 in
      ended_after (ring_with r (Mark m)) h es by (goes_with t a counter r h (Mark m) G g.0) g.1
      (record { latest = E.latest; is = E.is; sent = same ∙ E.sent; ended = E.ended })
