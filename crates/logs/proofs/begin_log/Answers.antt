-- `begin_log` is right because it answers by the number of what was written.
use Rattle.logs.proofs.WritingLaws.{began_refused, began_all}
use Rattle.logs.proofs.begin_log.Goals as goal

pub returns-then-written-ne-ACCEPTED : goal.returns-then-written-ne-ACCEPTED
returns-then-written-ne-ACCEPTED c =
    rw c.from.ensures (began_refused _ _ _ _ _ _ _ c.write_plan_fields-written.ensures c.if-written-ne-ACCEPTED.true)

pub returns : goal.returns
returns c =
    began_all _ _ _ _ _ _ _ c.write_plan_fields-written.ensures c.if-written-ne-ACCEPTED.false
