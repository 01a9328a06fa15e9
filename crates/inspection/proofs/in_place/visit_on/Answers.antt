-- `visit_on` is right because it asks what the visit must say, and by the first rule that is broken it stops, or stores what the visit moves.
use Rattle.std.proofs.Common.{◌≡◌, ℕ, List, refl}
use Rattle.sets.specs.Lent.{set_of}
use Rattle.plans.specs.Lent.{alloc_of}
use Rattle.log_records.specs.declared.Entry.TheVariants.{Visit}
use Rattle.inspection.specs.Rules.{expected}
use Rattle.inspection.specs.Kept.{standing}
use Rattle.inspection.specs.declared.Inspection.{Inspection}
use Rattle.inspection.proofs.RecordLaws.{asked_there, visit_moved}
use Rattle.inspection.proofs.KeptLaws.{step_stops, step_moves}
use Rattle.inspection.proofs.in_place.visit_on.Goals as goal

pub returns-then-rule-ne0 : goal.returns-then-rule-ne0
returns-then-rule-ne0 c =
    let lent : Inspection = let a = c.args in standing a.base.now a.sent.now a.mark.now a.course a.records 0 in
    let asked : let a = c.args in (x d p : List ℕ) → c.due-due.result ≡ expected (lent) (set_of a.head a.n a.w.now x d p) (alloc_of a.s.now) = λ x d p. let a = c.args in
    asked_there (lent) (set_of a.head a.n a.w.now x d p) (alloc_of a.s.now) _ c.place-p.ensures _ c.due-due.ensures in
    let a = c.args in
    step_stops lent a.head a.n a.w.now a.s.now (Visit a.visit) refl _ asked _ c.visit_rule-rule.ensures c.if-rule-ne0.true _ c.compare_visit-compared.ensures

pub returns : goal.returns
returns c =
    let lent : Inspection = let a = c.args in standing a.base.now a.sent.now a.mark.now a.course a.records 0 in
    let asked : let a = c.args in (x d p : List ℕ) → c.due-due.result ≡ expected (lent) (set_of a.head a.n a.w.now x d p) (alloc_of a.s.now) = λ x d p. let a = c.args in
    asked_there (lent) (set_of a.head a.n a.w.now x d p) (alloc_of a.s.now) _ c.place-p.ensures _ c.due-due.ensures in
    let a = c.args in
    let none = c.if-rule-ne0.false in
    let s = lent in
    rw c.none_compared-compared.ensures
    (step_moves s a.head a.n a.w.now a.s.now (Visit a.visit) refl _ asked _ c.visit_rule-rule.ensures none _ (λ x d p.
    visit_moved s (set_of a.head a.n a.w.now x d p) (alloc_of a.s.now) _ c.place-p.ensures _ _ _ _ _ _ (c.lead_of-lead.ensures a.n a.w.now x d p) c.base_after.ensures c.course_after-next.ensures refl none))
