-- `inspect_lent` is right because the records that are left always lead to the whole inspection, and each is moved on or stops it by the first rule that it breaks.
use Rattle.std.proofs.Common.{◌≡◌, ℕ, ◌+◌, ◌-◌, ◌%◌, ◌^◌, ◌<◌, List, sym, refl, ap, ◌∙◌, arith}
use Rattle.units.specs.Places.{at}
use Rattle.sets.specs.Lent.{set_of}
use Rattle.sets.specs.declared.Set.{Set}
use Rattle.plans.specs.Lent.{alloc_of}
use Rattle.plans.specs.declared.Alloc.{Alloc}
use Rattle.inspection.specs.Rules.{expected}
use Rattle.inspection.specs.Records.{moved_on, base_with}
use Rattle.inspection.proofs.RecordLaws.{all_stays, asked_there, counting, visit_stored, mark_stored, going_counted, going_next, going_stops, going_ends}
use Rattle.inspection.proofs.records.inspect_lent.Goals as goal
use Rattle.inspection.proofs.records.inspect_lent.Goals.{in-Visit, in-Mark, After-base_after}

-- a rule was broken before
pub returns-then-before-ne0 : goal.returns-then-before-ne0
returns-then-before-ne0 c =
    record { all = λ x d p. sym (all_stays _ _ _ _ c.if-before-ne0.true) }

-- the timer's moment is reckoned from the one before; said here by itself, so that a wrong one has a place of its own
base_is : (c : After-base_after)
    → let state = c.loop.state in
    c.base_after.result ≡ base_with c.args.head state.course.clock (at state.base c.place-p.result) c.lead_of-lead.result
base_is c = c.base_after.ensures

pub loop-preserved : goal.loop-preserved
loop-preserved c x d p =
    let plan : List ℕ → List ℕ → List ℕ → Set = λ x d p. let a = c.args in set_of a.head a.n a.w.now x d p in
    let shares : Alloc = alloc_of c.args.s.now in
    let asked : (x d p : List ℕ) → c.due-due.result ≡ expected c.loop.state (plan x d p) (shares) = λ x d p. asked_there c.loop.state (plan x d p) (shares) _ c.place-p.ensures _ c.due-due.ensures in
    let moved : (x d p : List ℕ)
    → counting c.match-entry.state ((c.match-entry.state.records + 1) % 2 ^ 64) ≡ moved_on c.loop.state (plan x d p) (shares) c.log_entry-handed.result.entry = λ x d p.
    let on = moved_on c.loop.state (plan x d p) (shares) in
    elim c.match-entry.branch [
      | in-Visit w ↦ visit_stored c.loop.state (plan x d p) (shares) _ c.place-p.ensures _ c.loop.state _ refl w.lead_of-lead.result _ _ _ (w.lead_of-lead.ensures c.args.n c.args.w.now x d p)
          w.base_after.ensures w.course_after-state.ensures w.state-is refl ∙ ap on (sym w.in-Visit.is)
      | in-Mark w ↦ mark_stored c.loop.state _ c.loop.state _ refl _ _ _ w.place-place.ensures w.mark_of.ensures w.state-is refl ∙ ap on (sym w.in-Mark.is)
    ] in
    let left : 0 < c.args.records - c.loop.counter = omega arith in
    let one_less : c.args.records - c.loop.counter - 1 ≡ c.args.records - (c.loop.counter + 1) = omega arith in
    going_counted _ _ _ _ c.match-entry.state _ _ _
    (rw one_less at
    (going_next _ _ _ _ _ _ _ left (c.loop.invariant x d p) _ c.log_entry-handed.ensures _ (asked x d p) (counting c.match-entry.state ((c.match-entry.state.records + 1) % 2 ^ 64)) (moved x d p) (sym c.broken_rule-rule.ensures ∙ c.if-rule-ne0.false))) refl

pub returns-after-loop : goal.returns-after-loop
returns-after-loop c =
    let none : c.args.records - c.loop.counter ≡ 0 = omega arith in
    record { all = λ x d p. going_ends _ _ _ _ _ _ (rw none at (c.loop.invariant x d p)) }

pub returns-then-rule-ne0 : goal.returns-then-rule-ne0
returns-then-rule-ne0 c =
    let plan : List ℕ → List ℕ → List ℕ → Set = λ x d p. let a = c.args in set_of a.head a.n a.w.now x d p in
    let shares : Alloc = alloc_of c.args.s.now in
    let asked : (x d p : List ℕ) → c.due-due.result ≡ expected c.loop.state (plan x d p) (shares) = λ x d p. asked_there c.loop.state (plan x d p) (shares) _ c.place-p.ensures _ c.due-due.ensures in
    let left : 0 < c.args.records - c.loop.counter = omega arith in
    record {
      all = λ x d p. going_stops _ _ _ _ _ _ _ left (c.loop.invariant x d p) _ c.log_entry-handed.ensures _ (asked x d p) _ c.broken_rule-rule.ensures c.if-rule-ne0.true;
    }
