-- `hopper_text` is right because it is the text of the list's request.
use Rattle.command_plan.proofs.PlanTextLaws.{read_says}
use Rattle.command_hopper.proofs.hopper_text.Goals as goal

pub returns : goal.returns
returns c =
    read_says _ _ _ _ _ c.request_of-request.ensures c.request_text.ensures
