-- `put_plan` is right because the plan was accepted and its fields have room, so they are put; behind the first visit nothing is.
use Rattle.command_compose.proofs.SentLaws.{plan_put, no_plan_put}
use Rattle.command_compose.proofs.sending.put_plan.Goals as goal

pub returns-then-d-eq2 : goal.returns-then-d-eq2
returns-then-d-eq2 c =
    plan_put c.args.d c.args.at c.args.page.now c.requires _ _ c.if-d-eq2.true c.write_plan_fields-written.ensures

pub returns : goal.returns
returns c =
    no_plan_put c.args.d c.args.at c.args.page.now c.requires c.if-d-eq2.false
