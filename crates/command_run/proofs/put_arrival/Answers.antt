-- `put_arrival` is right because its words are put one behind another.
use native.Mathlib.Omega.{arith}
use Rattle.text.proofs.PageLaws.{puts, field_then}
use Rattle.command_run.proofs.put_arrival.Goals as goal

pub returns : goal.returns
returns c =
    let room = c.requires in
    let one = puts c.put_short.ensures (omega (arith, room)) (omega arith) in
    let two = field_then _ one c.put_field.ensures (omega (arith, room)) in
    let three = field_then _ two c.put_field-2.ensures (omega (arith, room)) in
    field_then _ three c.put_field-3.ensures (omega (arith, room))
