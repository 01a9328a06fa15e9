-- `put_station` is right because the lines of the five numbers stand one behind another.
use mathlib.Core.Path.{sym}
use native.Mathlib.Omega.{arith}
use Rattle.differences.specs.Views.{nth_of}
use Rattle.text.proofs.PageLaws.{puts_then, puts_as}
use Rattle.command_diff.proofs.LineLaws.{lines_five}
use Rattle.command_diff.proofs.putting.put_station.Goals as goal

pub returns : goal.returns
unfolding nth_of
returns c =
    let room = c.requires.1 in
    let two = puts_then c.put_number.ensures c.put_number-2.ensures (omega (arith, room)) in
    let three = puts_then two c.put_number-3.ensures (omega (arith, room)) in
    let four = puts_then three c.put_number-4.ensures (omega (arith, room)) in
    puts_as (puts_then four c.put_number-5.ensures (omega (arith, room))) (sym (lines_five _)) (omega arith)
