-- `put_compared` is right because its parts are put one behind another.
use mathlib.Core.Path.{refl}
use native.Mathlib.Omega.{arith}
use Rattle.text.proofs.PageLaws.{puts, puts_then, puts_as, within_then, field_then, end_then}
use Rattle.command_inspect.proofs.put_compared.Goals as goal

pub returns : goal.returns
returns c =
    let room = c.requires in
    let one = puts c.put_short.ensures (omega (arith, room)) (omega arith) in
    let two = puts_then one c.put_aim.ensures (omega (arith, room)) in
    let three = field_then _ two c.put_field.ensures (omega (arith, room)) in
    let four = puts_then three c.put_unit.ensures (omega (arith, room)) in
    let five = within_then four c.put_short-2.ensures (omega arith) (omega (arith, room)) in
    let six = field_then _ five c.put_field-2.ensures (omega (arith, room)) in
    puts_as (end_then six c.put_end.ensures (omega (arith, room))) (rw (c.from.ensures, c.from-2.ensures) refl) (omega arith)
