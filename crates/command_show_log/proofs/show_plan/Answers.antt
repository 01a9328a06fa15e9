-- `show_plan` is right because a refused plan has no text.
use borrow.Author.Tests.{eq-eqb, ne_eqb}
use Rattle.command_show_log.proofs.ShowLaws.{printed_none}
use Rattle.command_show_log.proofs.show_plan.Goals as goal

pub returns-then-number-ne-ACCEPTED : goal.returns-then-number-ne-ACCEPTED
returns-then-number-ne-ACCEPTED c =
    rw (ne_eqb _ 0 c.if-number-ne-ACCEPTED.true) (printed_none _ c.requires)

pub returns : goal.returns
returns c =
    rw (eq-eqb _ 0 c.if-number-ne-ACCEPTED.false) c.plan_text.ensures
