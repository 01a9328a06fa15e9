-- `put_amounts` is right because its words are put one behind another.
use native.Mathlib.Omega.{arith}
use Rattle.text.proofs.TextLaws.{field_short}
use Rattle.text.proofs.PageLaws.{puts, field_then}
use Rattle.command_run.proofs.put_amounts.Goals as goal

pub returns : goal.returns
returns c =
    let room = c.requires in
    let one = puts c.put_field.ensures (omega (arith, room)) (field_short _) in
    let two = field_then _ one c.put_field-2.ensures (omega (arith, room)) in
    field_then _ two c.put_field-3.ensures (omega (arith, room))
