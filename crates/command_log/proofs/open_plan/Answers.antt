-- `open_plan` is right because it keeps the number of reading and opening, and else writes the plan's fields.
use Rattle.command_log.proofs.RecordLaws.{opened_refused, opened_accepted}
use Rattle.command_log.proofs.open_plan.Goals as goal

pub returns-then-opened-ne-ACCEPTED : goal.returns-then-opened-ne-ACCEPTED
returns-then-opened-ne-ACCEPTED c =
    opened_refused _ _ _ c.open_plan-opened.ensures c.start-recording.ensures _ c.if-opened-ne-ACCEPTED.true

pub returns : goal.returns
returns c =
    opened_accepted _ _ _ c.open_plan-opened.ensures c.start-recording.ensures _ _ _ c.if-opened-ne-ACCEPTED.false c.write_plan_fields-written.ensures c.write_plan_fields-written.auto.out
