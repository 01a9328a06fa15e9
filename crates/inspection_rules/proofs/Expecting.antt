-- What an inspection expects is what the ring's own next visit says, since it stands for the ring that the records lead to; so are the numbers of the line for people.
use Prim.Native.Nat.{ℕ, zero, suc, ◌+◌, ◌-◌, ◌%◌, ◌^◌}
use mathlib.Core.Path.{◌≡◌, refl, sym, ap, subst, ◌∙◌}
use mathlib.Core.List.{List, [], ◌∷◌, ◌++◌}
use mathlib.Core.Logic.{◌≢◌, ⊎_elim}
use mathlib.Core.Option.{none, some}
use native.Mathlib.Omega.{arith}
use borrow.Author.Tests.{eq-eqb, ne_eqb}
use lib.ListN.{length, length-append}
use Rattle.units.specs.Places.{at}
use Rattle.sets.specs.declared.Set.{Set}
use Rattle.plans.specs.Planned.{judged_plan}
use Rattle.plans.specs.declared.Alloc.{Alloc}
use Rattle.log_records.specs.declared.VisitEntry.{VisitEntry}
use Rattle.log_records.specs.declared.MarkEntry.{MarkEntry}
use Rattle.log_records.specs.declared.Entry.{Entry}
use Rattle.log_records.specs.declared.Entry.TheVariants.{Visit, Mark}
use Rattle.rings.specs.Opening.{opened_ring}
use Rattle.rings.specs.declared.Ring.{Ring}
use Rattle.inspection.specs.Counter.{ticks_between}
use Rattle.inspection.specs.Rules.{limit_with, unless_marked, place, expected, rules_kept, broken_rule}
use Rattle.inspection.specs.Records.{stopped_at, inspected, inspected_all, inspection_of}
use Rattle.inspection.specs.Findings.{visit_compared, compared_by, compared}
use Rattle.inspection.specs.declared.Inspection.{Inspection}
use Rattle.inspection.specs.declared.Expected.{Expected}
use Rattle.inspection.proofs.RecordLaws.{inspected_stops, all_stays}
use Rattle.inspection_rules.specs.Gives.{ring_after, GivesFrom, Gives}
use Rattle.inspection_rules.specs.Broken.{last_of, Rule, FirstBroken}
use Rattle.inspection_rules.specs.Promised.{Started, Starts, Recorded, ExpectedOf, VisitCompared, ComparedOf}
use Rattle.inspection_rules.proofs.Reaching.{Reached}
use Rattle.inspection_rules.proofs.Standing.{place_is, limit_is, most_is}
use Rattle.inspection_rules.proofs.Judging.{fails_none}
use Rattle.inspection_rules.proofs.Following.{some_or_none}
use Rattle.inspection_rules.proofs.Finding.{all_join, set_is, alloc_is, no_visits, reaches, leads, At, decides, broken_here, ends}
use Rattle.inspection_rules.proofs.One.{not_both, one_finding}

-- ---- lists

-- a first part of records as a log has them
starts_first : (es fs : List Entry) → Starts (es ++ fs) → Starts es
starts_first [] fs s = tt
starts_first (e ∷ es) fs s = (s.0, starts_first es fs s.1)

recorded_first : (es before behind : List Entry) → es ≡ before ++ behind → Recorded es → Recorded before
recorded_first es before behind is R =
    record {
      starts = starts_first before behind (subst Starts is R.starts);
      few = omega (arith, R.few, ap length is, length-append before behind);
    }

-- the start of a record among them
start_there : (before : List Entry) (e : Entry) (behind : List Entry) → Starts (before ++ e ∷ behind) → Started e
start_there [] e behind s = s.0
start_there (b ∷ before) e behind s = start_there before e behind s.1

module _ (t : Set) (a : Alloc) (h : judged_plan t a ≡ 0) where
  -- behind records that could be given an inspection stands for the ring that they lead to
  at_given : (before : List Entry) → Recorded before → Gives t a before → At t a h before (inspection_of t a before)
  at_given before R g = ⊎_elim (λ A. A) (λ f. absurd (not_both t a h before g _ _ f.first)) (ends t a h before R.starts)

  -- ---- what is expected

  module _ (before : List Entry) (counter : ℕ) (R : Recorded before) (g : GivesFrom counter (opened_ring t a) before) where
    abbrev r : Ring
    r = ring_after (opened_ring t a) before

    abbrev s : Inspection
    s = inspection_of t a before

    A : At t a h before (inspection_of t a before)
    A = at_given before R (counter, g)

    K : Reached (ring_after (opened_ring t a) before)
    K = reaches t a h counter before g

    placed : place (inspection_of t a before) ≡ (ring_after (opened_ring t a) before).token
    placed = place_is r K A.counter s A.stands

    -- both recorders show the same where the last record led
    shown : r.visits ≢ 0 → (A.counter + r.clock) % 2 ^ 32 ≡ (counter + r.clock) % 2 ^ 32
    shown n =
        ⊎_elim (λ (w : (b : VisitEntry) × (last_of before ≡ some b)). leads t a h A.counter before A.given w.0 w.1 ∙ sym (leads t a h counter before g w.0 w.1))
        (λ (nothing : last_of before ≡ none). absurd (n (no_visits t a h before nothing)))
        (some_or_none (last_of before))

    pub expects : ExpectedOf counter (ring_after (opened_ring t a) before) (expected (inspection_of t a before) t a)
    expects =
        let S = A.stands in
        record {
          station = omega (arith, placed);
          first = λ z. S.first ∙ eq-eqb r.visits 0 z;
          later = λ n. S.first ∙ ne_eqb r.visits 0 n;
          start = λ n. S.due (omega arith) ∙ shown n;
          offered =
              let own = ap (λ (x : Set). unless_marked (at s.mark (place s)) (limit_with x.head s.course.unused (ticks_between (at s.base (place s)) s.course.clock))) (sym (set_is t a h before)) in
              own ∙ limit_is r K A.counter s S;
          most =
              let own = ap (λ (y : Alloc). unless_marked (at s.mark (place s)) (at y.s (place s))) (sym (alloc_is t a h before)) in
              own ∙ most_is r K A.counter s S;
          longest = omega (arith, ap (λ (x : Set). x.head.frame) (sym (set_is t a h before)));
          count = ap (λ (x : Set). x.n) (sym (set_is t a h before));
        }

  -- ---- the line for people

  module _ (es : List Entry) (R : Recorded es) (number rule : ℕ) (f : FirstBroken t a es number rule) where
    abbrev u : Inspection
    u = inspection_of t a f.before

    abbrev k : ℕ
    k = broken_rule (expected u t a) f.entry

    R₁ : Recorded f.before
    R₁ = recorded_first es f.before (f.entry ∷ f.behind) f.place R

    B : At t a h f.before (inspection_of t a f.before)
    B = at_given f.before R₁ f.given

    small : Started f.entry
    small = start_there f.before f.entry f.behind (subst Starts f.place R.starts)

    -- a record that breaks a rule fails a test
    fails : k ≢ 0
    fails clean =
        let all = (fails_none 1 (rules_kept (expected u t a) f.entry) (omega arith)).1 clean in
        let low : suc (rule - 1) ≡ rule = omega (arith, f.known.0) in
        f.broken (subst (Rule t a f.before f.entry) low ((decides t a h f.before u B f.entry small (rule - 1)).0 (all (rule - 1))))

    same_rule : rule ≡ k
    same_rule =
        let here = broken_here t a h f.before u B f.entry small k fails refl f.behind in
        (one_finding t a h es number _ rule k f (subst (λ (x : List Entry). FirstBroken t a x (length f.before + 1) k) (sym f.place) here)).1

    stops : inspection_of t a es ≡ stopped_at (inspection_of t a f.before) k
    unfolding inspected_all
    stops =
        let one : inspected u t a f.entry ≡ stopped_at u k = inspected_stops u t a f.entry B.stands.rule k refl fails in
        ap (inspection_of t a) f.place ∙ all_join _ t a f.before (f.entry ∷ f.behind)
        ∙ ap (λ (x : Inspection). inspected_all x t a f.behind) one ∙ all_stays (stopped_at u k) t a f.behind fails

    by_start : (v : VisitEntry) (x : Expected) → (x.last ≡ u.course.start) × (x.span ≡ u.course.span)
        → VisitCompared t f.before (ring_after (opened_ring t a) f.before) v (suc (suc zero)) (visit_compared (suc (suc zero)) x v)
    unfolding visit_compared
    by_start v x C = λ b is.
        let last = B.last b is in
        (omega (arith, C.1, last.1), ap (λ (y : ℕ). ticks_between y v.start) (C.0 ∙ last.0))

    by_rule : (v : VisitEntry) (j : ℕ) (x : Expected) → ExpectedOf f.given.0 (ring_after (opened_ring t a) f.before) x → (x.last ≡ u.course.start) × (x.span ≡ u.course.span)
        → VisitCompared t f.before (ring_after (opened_ring t a) f.before) v j (visit_compared j x v)
    unfolding visit_compared
    by_rule v zero x X C = tt
    by_rule v (suc zero) x X C = (omega (arith, X.station), refl)
    by_rule v (suc (suc zero)) x X C = by_start v x C
    by_rule v (suc (suc (suc zero))) x X C = (omega (arith, X.offered), refl)
    by_rule v (suc (suc (suc (suc zero)))) x X C = (omega (arith, X.most), refl)
    by_rule v (suc (suc (suc (suc (suc zero))))) x X C = (omega (arith, X.offered), refl)
    by_rule v (suc (suc (suc (suc (suc (suc j)))))) x X C = tt

    by_mark : (m : MarkEntry) (j : ℕ) (x : Expected) → ExpectedOf f.given.0 (ring_after (opened_ring t a) f.before) x
        → ComparedOf t f.before (ring_after (opened_ring t a) f.before) (Mark m) j (compared_by j x (Mark m))
    by_mark m j x X = (X.count, refl)

    by_kind : (e : Entry) (j : ℕ) (x : Expected) → ExpectedOf f.given.0 (ring_after (opened_ring t a) f.before) x → (x.last ≡ u.course.start) × (x.span ≡ u.course.span)
        → ComparedOf t f.before (ring_after (opened_ring t a) f.before) e j (compared_by j x e)
    by_kind (Visit v) j x X C = by_rule v j x X C
    by_kind (Mark m) j x X C = by_mark m j x X

    pub compares : ComparedOf t f.before (ring_after (opened_ring t a) f.before) f.entry rule (compared (inspection_of t a es) t a f.entry)
    compares =
        let X = expects f.before f.given.0 R₁ f.given.1 in
        rw (stops, same_rule) (by_kind f.entry k (expected u t a) X (refl, refl))
