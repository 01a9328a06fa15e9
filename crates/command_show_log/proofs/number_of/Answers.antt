-- `number_of` is right because a fault of the records comes before the plan's refusal.
use mathlib.Core.Path.{sym, ◌∙◌}
use Rattle.sheets.proofs.ReadLaws.{then_rest, then_keeps}
use Rattle.command_show_log.proofs.number_of.Goals as goal

pub returns-then-number-ne-ACCEPTED : goal.returns-then-number-ne-ACCEPTED
returns-then-number-ne-ACCEPTED c =
    let same = c.number_of-number.ensures in
    same ∙ sym (then_keeps _ _ (λ z. c.if-number-ne-ACCEPTED.true (same ∙ z)))

pub returns : goal.returns
returns c =
    let same = c.number_of-number.ensures in
    sym (then_rest _ _ (sym same ∙ c.if-number-ne-ACCEPTED.false))
