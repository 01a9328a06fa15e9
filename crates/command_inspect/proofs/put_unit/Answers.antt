-- `put_unit` is right because a start alone has one.
use native.Mathlib.Omega.{arith}
use Rattle.text.proofs.PageLaws.{puts_none, puts, puts_then, puts_as}
use Rattle.command_inspect.proofs.LineLaws.{no_unit, start_unit}
use Rattle.command_inspect.proofs.put_unit.Goals as goal

pub returns-then-rule-ne2 : goal.returns-then-rule-ne2
returns-then-rule-ne2 c =
    puts_as (puts_none _) (no_unit _ _ c.if-rule-ne2.true) (omega arith)

pub returns : goal.returns
returns c =
    let room = c.requires in
    let one = puts c.put_short.ensures (omega (arith, room)) (omega arith) in
    puts_as (puts_then one c.put_before.ensures (omega (arith, room))) (start_unit _ _ c.if-rule-ne2.false) (omega arith)
