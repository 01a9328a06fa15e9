-- `judged` is right because its body is the definition.
use mathlib.Core.Path.{refl}
use Rattle.command_explain.specs.Sheet.{judged_as}
use Rattle.command_explain.proofs.sheet.judged.Goals as goal

pub returns-then-plan : goal.returns-then-plan
unfolding judged_as
returns-then-plan c =
    rw c.if-plan.true refl

pub returns : goal.returns
unfolding judged_as
returns c =
    rw c.if-plan.false c.plan_of.ensures
