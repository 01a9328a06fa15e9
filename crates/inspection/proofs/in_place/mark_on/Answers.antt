-- `mark_on` is right because by the one rule of a mark it stops, or stores the mark.
use Rattle.std.proofs.Common.{refl}
use Rattle.sets.specs.Judged.{zeros}
use Rattle.sets.specs.Lent.{set_of}
use Rattle.plans.specs.Lent.{alloc_of}
use Rattle.log_records.specs.declared.Entry.TheVariants.{Mark}
use Rattle.inspection.specs.Rules.{expected}
use Rattle.inspection.specs.Kept.{standing}
use Rattle.inspection.proofs.RecordLaws.{mark_moved}
use Rattle.inspection.proofs.KeptLaws.{step_stops, step_moves}
use Rattle.inspection.proofs.in_place.mark_on.Goals as goal

pub returns-then-rule-ne0 : goal.returns-then-rule-ne0
returns-then-rule-ne0 c =
    let a = c.args in
    record {
      stepped = λ base sent w shares head.
          let s = standing base sent a.mark.now a.course a.records 0 in
          let due = expected s (set_of head a.n w zeros zeros zeros) (alloc_of shares) in
          step_stops s head a.n w shares (Mark a.switched) refl due (λ x d p. refl) _ (c.mark_rule-rule.ensures due refl) c.if-rule-ne0.true _ refl;
    }

pub returns : goal.returns
returns c =
    let a = c.args in
    let none = c.if-rule-ne0.false in
    record {
      stepped = λ base sent w shares head.
          let s = standing base sent a.mark.now a.course a.records 0 in
          let due = expected s (set_of head a.n w zeros zeros zeros) (alloc_of shares) in
          rw c.none_compared-compared.ensures
          (step_moves s head a.n w shares (Mark a.switched) refl due (λ x d p. refl) _ (c.mark_rule-rule.ensures due refl) none _
          (λ x d p. mark_moved s _ _ _ _ _ c.place-place.ensures c.mark_of.ensures refl none));
    }
