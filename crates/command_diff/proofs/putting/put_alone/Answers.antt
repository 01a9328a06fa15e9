-- `put_alone` is right because its words are put one behind another.
use native.Mathlib.Omega.{arith}
use Rattle.differences.specs.Views.{nth_of}
use Rattle.text.proofs.TextLaws.{decimal_short}
use Rattle.text.proofs.PageLaws.{puts, puts_then, puts_as}
use Rattle.command_diff.proofs.LineLaws.{alone_line}
use Rattle.command_diff.proofs.putting.put_alone.Goals as goal

pub returns : goal.returns
unfolding nth_of
returns c =
    let room = c.requires.1 in
    let one = puts c.put_number.ensures (omega (arith, room)) (decimal_short 20 _) in
    let two = puts_then one c.put_side.ensures (omega (arith, room)) in
    puts_as (puts_then two c.put_five.ensures (omega (arith, room))) (alone_line _ _ _ _ _ _ _) (omega arith)
