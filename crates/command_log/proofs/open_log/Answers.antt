-- `open_log` is right because it opens the plan that it read.
use Rattle.command_log.proofs.open_log.Goals as goal

pub returns : goal.returns
returns c =
    rw c.read_plan.ensures at c.open_plan.ensures
