-- What comes behind records that could have been given: when it starts, by a wrapping difference, and that there always is one.
use Prim.Native.Nat.{ℕ, ◌+◌, ◌%◌, ◌^◌, ◌<◌}
use mathlib.Core.Path.{◌≡◌, refl, ap, ◌∙◌}
use mathlib.Core.List.{List, [], ◌∷◌, ◌++◌, map}
use mathlib.Core.Logic.{◌↔◌}
use mathlib.Core.Option.{none, some}
use native.Mathlib.Omega.{arith}
use Rattle.units.specs.Places.{at}
use Rattle.sets.specs.declared.Set.{Set}
use Rattle.plans.specs.Planned.{judged_plan}
use Rattle.plans.specs.declared.Alloc.{Alloc}
use Rattle.log_records.specs.declared.VisitEntry.{VisitEntry}
use Rattle.log_records.specs.declared.MarkEntry.{MarkEntry}
use Rattle.log_records.specs.declared.Entry.{Entry}
use Rattle.log_records.specs.declared.Entry.TheVariants.{Visit, Mark}
use Rattle.rings.specs.Timers.{limit}
use Rattle.rings.specs.Opening.{opened_ring}
use Rattle.inspection.specs.Counter.{ticks_between}
use Rattle.inspection.specs.Frames.{frames_fit}
use Rattle.inspection_rules.specs.Gives.{CouldVisit, ring_after, Gives}
use Rattle.inspection_rules.specs.Broken.{last_from, last_of, took, StartRule}
use Rattle.inspection_rules.proofs.Reaching.{reached_opened, passes_short}
use Rattle.inspection_rules.proofs.Standing.{due_between}
use Rattle.inspection_rules.proofs.Judging.{asked_decides}
use Rattle.inspection_rules.proofs.Following.{gives_join, last_given}
use Rattle.inspection_rules.proofs.Finding.{opened_set, reaches}

-- ---- the start

-- behind marks alone any start is allowed
no_last : (ms : List MarkEntry) → last_of (map Mark ms) ≡ none
unfolding last_from
no_last [] = refl
no_last (m ∷ ms) = no_last ms

pub start_free : (t : Set) (ms : List MarkEntry) (v : VisitEntry) → StartRule t (map Mark ms) v
start_free t ms v b is = let z : ◌≡◌ {A = ℕ} 0 1 = cc (is, no_last ms) in absurd (omega arith)

module _ (t : Set) (a : Alloc) (h : judged_plan t a ≡ 0) where
  pub start_between : (before : List Entry) (b v : VisitEntry) → Gives t a before → last_of before ≡ some b → v.start < 2 ^ 32
      → StartRule t before v ↔ (ticks_between b.start v.start ≡ took t b)
  start_between before b v g is small =
      let w =
      last_given g.0 t (opened_ring t a) none before (opened_set t a h) (reached_opened t a h) (λ c e. let z : ◌≡◌ {A = ℕ} 0 1 = cc e in absurd (omega arith)) g.1 b is in
      let C = w.1.1.0 in
      let own : w.0.set ≡ t = w.1.1.1 in
      let walk : at t.w b.station ≡ at w.0.set.w w.0.token = cc (own, C.station) in
      let short : took t b < 2 ^ 32 = omega (arith, passes_short g.0 w.0 w.1.0 b C) in
      let both = due_between b.start (took t b) v.start (omega (arith, C.start)) short small in (
        λ rule. both.0 (rule b is),
        λ between c last. let same : b ≡ c = cc (is, last) in both.1 between ∙ ap (λ (x : VisitEntry). (x.start + took t x) % 2 ^ 32) same,
      )

  -- ---- a visit that sends nothing could always be the next one

  pub one_more_lem : (es : List Entry) → Gives t a es → (e : Entry) × Gives t a (es ++ (e ∷ []))
  unfolding frames_fit
  one_more_lem es g =
      let r = ring_after (opened_ring t a) es in
      let v : VisitEntry = record { station = r.token; start = (g.0 + r.clock) % 2 ^ 32; limit = limit r; synchronous = 0; asynchronous = 0 } in
      let C : CouldVisit g.0 r v =
      record {
        station = refl;
        start = refl;
        offered = refl;
        synchronous = omega arith;
        asynchronous = (asked_decides r (reaches t a h g.0 es g.1) 0).0 refl;
      } in
      (Visit v, (g.0, gives_join g.0 (opened_ring t a) es (Visit v ∷ []) g.1 (C, tt)))
