-- `put_refused` is right because the refusal stands behind the word.
use native.Mathlib.Omega.{arith}
use Rattle.text.proofs.TextLaws.{refused_short}
use Rattle.text.proofs.PageLaws.{puts, puts_as, within_then}
use Rattle.command_inspect_plan.proofs.AnswerLaws.{plan_refused_lem}
use Rattle.command_inspect_plan.proofs.put_refused.Goals as goal

pub returns : goal.returns
returns c =
    let room = c.requires in
    let one = puts c.put_short.ensures (omega (arith, room)) (omega arith) in
    puts_as (within_then one c.put_refused.ensures (refused_short _) room) (plan_refused_lem _) (omega arith)
