-- The ring that records lead to goes on as a run's ring does, with their visits as its history; here of the plan with which it was opened.
use Prim.Native.Nat.{ℕ}
use mathlib.Core.Path.{◌≡◌, subst, subst₂, ◌∙◌}
use mathlib.Core.List.{List, [], ◌∷◌}
use Rattle.sets.specs.declared.Set.{Set}
use Rattle.plans.specs.declared.Alloc.{Alloc}
use Rattle.log_records.specs.declared.VisitEntry.{VisitEntry}
use Rattle.log_records.specs.declared.Entry.{Entry}
use Rattle.log_records.specs.declared.Entry.TheVariants.{Visit, Mark}
use Rattle.rings.specs.Timers.{Fddi}
use Rattle.rings.specs.declared.Ring.{Ring}
use Rattle.rings.specs.declared.VisitRecord.{VisitRecord}
use Rattle.promises.specs.History.{Each}
use Rattle.promises.specs.Facts.{timing, VisitCourse, VisitTimers}
use Rattle.promises.specs.Valid.{InTurn}
use Rattle.promises.proofs.Course.{Course}
use Rattle.promises.proofs.Timing.{Timed}
use Rattle.promises.proofs.Laps.{Lapped}
use Rattle.inspection_rules.specs.Gives.{CouldVisit, Could, ring_with, ring_after, GivesFrom}
use Rattle.inspection_rules.proofs.Reaching.{Goes, Reached, made, visit_course, visit_timers, goes_visit, goes_switched}
use Rattle.inspection_rules.proofs.Following.{set_with, alloc_with}

-- the visits so far, the latest first, with this record
unfoldable pub told_with : Ring → Entry → List VisitRecord → List VisitRecord
told_with r (Visit v) h = made r v ∷ h
told_with r (Mark m) h = h

-- and with these
unfoldable pub told : Ring → List Entry → List VisitRecord → List VisitRecord
told r [] h = h
told r (e ∷ es) h = told (ring_with r e) es (told_with r e h)

-- ring r of plan (t, a), behind the visits h
pub record GoesBy (t : Set) (a : Alloc) (r : Ring) (h : List VisitRecord) : Type 0 where
  pub own : Goes r h
  pub set : r.set ≡ t
  pub alloc : r.alloc ≡ a

module _ (t : Set) (a : Alloc) (r : Ring) (h : List VisitRecord) (G : GoesBy t a r h) where
  pub course : Course t a (timing r) h
  course = subst₂ (λ (x : Set) (y : Alloc). Course x y (timing r) h) G.set G.alloc G.own.course

  pub turns : Each (InTurn t) h
  turns = subst (λ (x : Set). Each (InTurn x) h) G.set G.own.turns

  pub timed : ¬ Fddi t → Timed t a (timing r) h
  timed = subst₂ (λ (x : Set) (y : Alloc). ¬ Fddi x → Timed x y (timing r) h) G.set G.alloc G.own.timely

  pub lapped : Fddi t → Lapped t a (timing r) h
  lapped = subst₂ (λ (x : Set) (y : Alloc). Fddi x → Lapped x y (timing r) h) G.set G.alloc G.own.fddi

  -- a visit of it
  module _ (counter : ℕ) (v : VisitEntry) (C : CouldVisit counter r v) where
    K : Reached r
    K = record { visits = h; goes = G.own }

    pub facts : VisitCourse t a (timing r) (timing (ring_with r (Visit v))) (made r v)
    facts = subst₂ (λ (x : Set) (y : Alloc). VisitCourse x y (timing r) (timing (ring_with r (Visit v))) (made r v)) G.set G.alloc (visit_course counter r K v C)

    pub timer_facts : ¬ Fddi t → VisitTimers t (timing r) (timing (ring_with r (Visit v))) (made r v)
    timer_facts = subst (λ (x : Set). ¬ Fddi x → VisitTimers x (timing r) (timing (ring_with r (Visit v))) (made r v)) G.set (visit_timers counter r K v C)

module _ (t : Set) (a : Alloc) (counter : ℕ) where
  own_with : (r : Ring) (h : List VisitRecord) (e : Entry) → Goes r h → Could counter r e → Goes (ring_with r e) (told_with r e h)
  unfolding told_with
  own_with r h (Visit v) G C = goes_visit counter r h G v C
  own_with r h (Mark m) G C = goes_switched r h G m.station m.mark

  pub goes_with : (r : Ring) (h : List VisitRecord) (e : Entry) → GoesBy t a r h → Could counter r e → GoesBy t a (ring_with r e) (told_with r e h)
  goes_with r h e G C = record { own = own_with r h e G.own C; set = set_with r e ∙ G.set; alloc = alloc_with r e ∙ G.alloc }

  pub goes_on : (r : Ring) (h : List VisitRecord) (es : List Entry) → GoesBy t a r h → GivesFrom counter r es → GoesBy t a (ring_after r es) (told r es h)
  unfolding ring_after told
  goes_on r h [] G g = G
  goes_on r h (e ∷ es) G g = goes_on (ring_with r e) (told_with r e h) es (goes_with r h e G g.0) g.1
