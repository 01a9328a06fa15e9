-- `put_stations` is right because after i turns the lines of the first i stations are put.
use mathlib.Core.Path.{◌≡◌, refl}
use native.Mathlib.Omega.{arith}
use Rattle.fields.proofs.RowLaws.{rows_none, rows_step}
use Rattle.text.proofs.PageLaws.{puts_none, puts_then, puts_as}
use Rattle.command_show.proofs.showing.put_stations.Goals as goal

pub loop-i-init : goal.loop-i-init
loop-i-init c =
    rw rows_none (puts_none _)

pub loop-i-preserved : goal.loop-i-preserved
loop-i-preserved c =
    rw rows_step (puts_as (puts_then c.loop-i.invariant c.put_station.ensures (omega arith)) refl (omega arith))

pub returns : goal.returns
returns c =
    let end : c.loop-i.i ≡ c.args.t.n = omega arith in
    puts_as c.loop-i.invariant (rw end) (omega arith)
