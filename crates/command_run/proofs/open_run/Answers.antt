-- `open_run` is right because it opens the plan that it read.
use mathlib.Core.Path.{ap, ◌∙◌}
use Rattle.command_run.specs.Runs.{opened_run}
use Rattle.command_run.proofs.open_run.Goals as goal

pub returns : goal.returns
returns c =
    c.open_plan.ensures ∙ ap opened_run c.read_plan.ensures
