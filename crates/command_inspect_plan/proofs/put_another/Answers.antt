-- `put_another` is right because the lines of what differs stand behind the line.
use native.Mathlib.Omega.{arith}
use Rattle.text.proofs.PageLaws.{puts, puts_as, end_then}
use Rattle.command_inspect_plan.proofs.AnswerLaws.{another_line_lem, another_put}
use Rattle.command_inspect_plan.proofs.put_another.Goals as goal

pub returns : goal.returns
returns c =
    let room = c.requires.1 in
    let one = puts c.put_short.ensures (omega (arith, room)) (omega arith) in
    let two = puts_as {more = 21} (end_then one c.put_end.ensures (omega (arith, room))) another_line_lem (omega arith) in
    another_put c.requires.0 room two c.put_lines.ensures
