-- `put_frames` is right because its words are put one behind another.
use mathlib.Core.Path.{refl}
use native.Mathlib.Omega.{arith}
use Rattle.text.proofs.PageLaws.{puts, puts_as, within_then, field_then}
use Rattle.command_inspect.proofs.put_frames.Goals as goal

pub returns : goal.returns
returns c =
    let room = c.requires in
    let one = puts c.put_short.ensures (omega (arith, room)) (omega arith) in
    let two = within_then one c.put_short-2.ensures (omega arith) (omega (arith, room)) in
    let three = field_then _ two c.put_field.ensures (omega (arith, room)) in
    puts_as (within_then three c.put_short-3.ensures (omega arith) (omega (arith, room))) (rw c.from.ensures refl) (omega arith)
