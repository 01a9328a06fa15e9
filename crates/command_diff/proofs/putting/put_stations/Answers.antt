-- `put_stations` is right because the lines of the stations before this one are put.
use mathlib.Core.Path.{◌≡◌, refl, sym}
use native.Mathlib.Omega.{arith}
use Rattle.text.proofs.PageLaws.{puts_none, puts_then, puts_as}
use Rattle.command_diff.proofs.LineLaws.{lines_none, lines_step}
use Rattle.command_diff.proofs.putting.put_stations.Goals as goal

pub loop-i-init : goal.loop-i-init
loop-i-init c =
    puts_as (puts_none _) (sym (lines_none _)) (omega arith)

pub loop-i-preserved : goal.loop-i-preserved
loop-i-preserved c =
    rw lines_step (puts_as (puts_then c.loop-i.invariant c.put_station.ensures (omega arith)) refl (omega arith))

pub returns : goal.returns
returns c =
    let end : c.loop-i.i ≡ c.args.shared = omega arith in
    puts_as c.loop-i.invariant (rw end) (omega arith)
