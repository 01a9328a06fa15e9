-- `begin_inspection` is right because only a plan that is judged 0 begins one.
use Rattle.std.proofs.Common.{◌≡◌, sym, ◌∙◌}
use Rattle.inspection.proofs.KeptLaws.{begun_refused, begun_accepted}
use Rattle.inspection.proofs.keeping.begin_inspection.Goals as goal

pub returns-then-number-ne-ACCEPTED : goal.returns-then-number-ne-ACCEPTED
returns-then-number-ne-ACCEPTED c =
    let number = c.answer_number-number.ensures ∙ c.judge_plan.ensures in
    rw (c.blank-inspection.ensures, number) (sym (begun_refused _ _ (λ e. c.if-number-ne-ACCEPTED.true (number ∙ e))))

pub returns : goal.returns
returns c =
    let zero : c.answer_number-number.result ≡ 0 = c.if-number-ne-ACCEPTED.false in
    rw (c.kept_of-inspection.ensures, c.begin-begun.ensures, zero) (sym (begun_accepted _ _ (sym (c.answer_number-number.ensures ∙ c.judge_plan.ensures) ∙ zero)))
