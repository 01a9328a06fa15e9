-- `put_plan` is right because the stations' lines stand behind the first line.
use mathlib.Core.Path.{refl}
use native.Mathlib.Omega.{arith}
use Rattle.command_plan.specs.PlanText.{plan_lines}
use Rattle.text.proofs.PageLaws.{puts_then, puts_as}
use Rattle.command_plan.proofs.planning.put_plan.Goals as goal

pub returns : goal.returns
unfolding plan_lines
returns c =
    puts_as (puts_then c.put_plan_line.ensures c.put_shares.ensures (omega (arith, c.requires)))
    (rw (c.from-n.ensures, c.from-ttrt.ensures, c.walk_time-tau.ensures.sum, c.spare-spare.ensures) refl)
    (omega arith)
