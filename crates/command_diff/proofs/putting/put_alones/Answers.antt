-- `put_alones` is right because the lines of the stations before this one are put.
use Prim.Native.Nat.{◌+◌, ◌-◌}
use mathlib.Core.Path.{◌≡◌, refl}
use native.Mathlib.Omega.{arith}
use Rattle.text.proofs.PageLaws.{puts_none, puts_then, puts_as}
use Rattle.command_diff.proofs.LineLaws.{lines_one, lines_none, lines_step}
use Rattle.command_diff.proofs.putting.put_alones.Goals as goal

pub loop-i-init : goal.loop-i-init
loop-i-init c =
    let none : c.args.from - c.args.from ≡ 0 = omega arith in
    record { within = omega arith; put = rw (none, lines_none) (puts_none _) }

pub loop-i-preserved : goal.loop-i-preserved
loop-i-preserved c =
    let before = c.loop-i.invariant in
    let i = c.loop-i.i in
    let from = c.args.from in
    let here : from + (i - from) ≡ i = omega arith in
    let next : i + 1 - from ≡ i - from + 1 = omega arith in
    let more = puts_then before.put c.put_alone.ensures (omega arith) in
    record { within = omega arith; put = rw (next, lines_step) (puts_as more (rw (lines_one, here) refl) (omega arith)) }

pub returns : goal.returns
returns c =
    let end : c.loop-i.i - c.args.from ≡ c.args.end - c.args.from = omega arith in
    puts_as c.loop-i.invariant.put (rw end) (omega arith)
