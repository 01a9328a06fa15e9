-- `put_accepted` is right because its words are put one behind another.
use mathlib.Core.Path.{sym}
use native.Mathlib.Omega.{arith}
use Rattle.text.proofs.TextLaws.{line_two}
use Rattle.text.proofs.PageLaws.{puts, puts_as, field_then, end_then}
use Rattle.command_inspect.proofs.put_accepted.Goals as goal

pub returns : goal.returns
returns c =
    let room = c.requires in
    let one = puts c.put_short.ensures (omega (arith, room)) (omega arith) in
    let two = field_then _ one c.put_field.ensures (omega (arith, room)) in
    puts_as (end_then two c.put_end.ensures (omega (arith, room))) (sym (line_two _ _)) (omega arith)
