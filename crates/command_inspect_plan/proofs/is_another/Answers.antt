-- `is_another` is right because it asks for the log's number and compares the two plans.
use mathlib.Core.Path.{refl}
use Rattle.command_inspect_plan.proofs.is_another.Goals as goal

pub returns : goal.returns
returns c =
    rw (c.same_plan-same.ensures, c.number_of-number.ensures) refl
