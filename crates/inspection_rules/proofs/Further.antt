-- Nothing behind the named record is looked at: an inspection that has counted just the records before it had stopped there.
use Prim.Native.Nat.{◌+◌, ◌%◌, ◌^◌, ◌≤◌, ◌<◌}
use mathlib.Core.Path.{◌≡◌, refl, sym, ap, ◌∙◌}
use mathlib.Core.List.{List, [], ◌∷◌, ◌++◌}
use mathlib.Core.Logic.{◌⊎◌, inl, inr, ◌≢◌, ⊎_elim}
use native.Mathlib.Omega.{arith}
use lib.ListN.{length, length-append}
use lib.Seq.{append_snoc}
use Rattle.sets.specs.declared.Set.{Set}
use Rattle.plans.specs.declared.Alloc.{Alloc}
use Rattle.log_records.specs.declared.Entry.{Entry}
use Rattle.log_records.specs.declared.Entry.TheVariants.{Visit, Mark}
use Rattle.promises.proofs.Course.{same_or_not}
use Rattle.inspection.specs.Opening.{begun}
use Rattle.inspection.specs.Rules.{expected, broken_rule}
use Rattle.inspection.specs.Records.{visited_on, switched_on, moved_on, inspected, inspected_all, inspection_of}
use Rattle.inspection.specs.declared.Inspection.{Inspection}
use Rattle.inspection.proofs.RecordLaws.{inspected_stays, inspected_stops, inspected_moves, all_stays}
use Rattle.inspection_rules.proofs.Finding.{all_join}

module _ (t : Set) (a : Alloc) where
  -- ---- what is counted

  -- what keeps every rule is counted
  moved_counted : (s : Inspection) (e : Entry) → (moved_on s t a e).records ≡ (s.records + 1) % 2 ^ 64
  unfolding visited_on switched_on
  moved_counted s (Visit v) = refl
  moved_counted s (Mark m) = refl

  -- a record is counted, or a rule is broken
  one_counted : (s : Inspection) (e : Entry) → ((inspected s t a e).records ≡ (s.records + 1) % 2 ^ 64) ⊎ (((inspected s t a e).rule ≢ 0) × ((inspected s t a e).records ≡ s.records))
  one_counted s e =
      let k = broken_rule (expected s t a) e in
      ⊎_elim (λ (z : s.rule ≡ 0).
      ⊎_elim (λ (none : k ≡ 0). inl (ap (λ (x : Inspection). x.records) (inspected_moves s t a e z none) ∙ moved_counted s e))
      (λ (n : k ≢ 0). inr (rw (inspected_stops s t a e z k refl n) (n, refl)))
      (same_or_not k 0))
      (λ (n : s.rule ≢ 0). inr (rw (inspected_stays s t a e n) (n, refl)))
      (same_or_not s.rule 0)

  -- the count never falls, and all are counted where no rule is broken
  all_counted : (es : List Entry) (s : Inspection) → s.records + length es < 2 ^ 64
      → (s.records ≤ (inspected_all s t a es).records) × ((inspected_all s t a es).rule ≡ 0 → (inspected_all s t a es).records ≡ s.records + length es)
  unfolding inspected_all
  all_counted [] s few = (omega arith, λ _. omega arith)
  all_counted (e ∷ es) s few =
      let next = inspected s t a e in
      ⊎_elim (λ (on : next.records ≡ (s.records + 1) % 2 ^ 64).
      let rest = all_counted es next (omega arith) in
      (omega (arith, rest.0), λ z. omega (arith, rest.1 z)))
      (λ (stops : (next.rule ≢ 0) × (next.records ≡ s.records)).
      rw (all_stays next t a es stops.0) (omega (arith, stops.1), λ z. absurd (stops.0 z)))
      (one_counted s e)

  begun_none : (begun t a).records ≡ 0
  unfolding begun
  begun_none = refl

  -- ---- behind the named record

  module _ (before : List Entry) (e : Entry) where
    abbrev there : Inspection
    there = inspection_of t a (before ++ (e ∷ []))

    behind : (es : List Entry) → inspection_of t a (before ++ e ∷ es) ≡ inspected_all there t a es
    behind es = ap (inspection_of t a) (sym (append_snoc before e es)) ∙ all_join (begun t a) t a (before ++ (e ∷ [])) es

    pub further : (other another : List Entry) → length (before ++ e ∷ other) < 2 ^ 64 → (inspection_of t a (before ++ e ∷ other)).rule ≢ 0
        → (inspection_of t a (before ++ e ∷ other)).records ≡ length before → inspection_of t a (before ++ e ∷ another) ≡ inspection_of t a (before ++ e ∷ other)
    further other another few broken counted =
        let long = length-append before (e ∷ other) in
        let first = all_counted (before ++ (e ∷ [])) (begun t a) (omega (arith, begun_none, length-append before (e ∷ []))) in
        let same : there.rule ≢ 0 → (es : List Entry) → inspection_of t a (before ++ e ∷ es) ≡ there = λ n es. behind es ∙ all_stays there t a es n in
        ⊎_elim (λ (z : there.rule ≡ 0).
        let upto : there.records ≡ length before + 1 = omega (arith, first.1 z, begun_none, length-append before (e ∷ [])) in
        let rest = all_counted other there (omega arith) in
        absurd (omega (arith, rest.0, ap (λ (x : Inspection). x.records) (behind other))))
        (λ (n : there.rule ≢ 0). same n another ∙ sym (same n other))
        (same_or_not there.rule 0)
