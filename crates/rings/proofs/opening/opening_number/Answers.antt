-- `opening_number` is right because the judgement's number is opening's as long as it is 2, 4 or 5, and behind that the mode is asked for before the rules.
use mathlib.Core.Path.{sym, ◌∙◌}
use Rattle.rings.proofs.OpeningLaws.{opening_before, opening_retired, opening_in_use}
use Rattle.rings.proofs.opening.opening_number.Goals as goal

pub returns-then-before : goal.returns-then-before
returns-then-before c =
    let judged = c.answer_number-judged.ensures ∙ c.judge_plan_lent.ensures in
    judged ∙ sym (opening_before _ _ (rw judged at c.if-before.true))

pub returns-then-head-eq-FDDI : goal.returns-then-head-eq-FDDI
returns-then-head-eq-FDDI c =
    let judged = c.answer_number-judged.ensures ∙ c.judge_plan_lent.ensures in
    sym (opening_retired _ _ (rw judged at c.if-before.false) c.if-head-eq-FDDI.true)

pub returns : goal.returns
returns c =
    c.answer_number-judged.ensures ∙ c.judge_plan_lent.ensures ∙ sym (opening_in_use _ _ c.if-head-eq-FDDI.false)
