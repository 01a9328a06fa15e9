-- `plan_text` is right because it is the text of the request that was read.
use Rattle.command_plan.proofs.PlanTextLaws.{read_says}
use Rattle.command_plan.proofs.plan_text.Goals as goal

pub returns : goal.returns
returns c =
    read_says _ _ _ _ _ c.read_request-request.ensures c.request_text.ensures
