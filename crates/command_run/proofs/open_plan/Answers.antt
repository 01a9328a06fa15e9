-- `open_plan` is right because it keeps the number of reading, and else gives that of opening.
use Rattle.command_run.proofs.RunLaws.{opened_refused, opened_accepted}
use Rattle.command_run.proofs.open_plan.Goals as goal

pub returns-then-plan-ne-ACCEPTED : goal.returns-then-plan-ne-ACCEPTED
returns-then-plan-ne-ACCEPTED c =
    opened_refused _ _ _ c.open-opened.ensures c.start-run.ensures c.if-plan-ne-ACCEPTED.true

pub returns : goal.returns
returns c =
    opened_accepted _ _ _ c.open-opened.ensures c.start-run.ensures c.if-plan-ne-ACCEPTED.false
