-- `put_shares` is right because the lines of the stations before this one are put.
use mathlib.Core.Path.{◌≡◌, ◌∙◌}
use lib.ListN.{get_or, length-take}
use Rattle.std.proofs.lemmas.List.{get_or-take}
use native.Mathlib.Omega.{arith}
use Rattle.fields.proofs.RowLaws.{rows_none, rows_step}
use Rattle.text.proofs.PageLaws.{puts_none, puts_then, puts_as}
use Rattle.command_plan.proofs.planning.put_shares.Goals as goal

pub loop-i-init : goal.loop-i-init
loop-i-init c =
    rw rows_none (puts_none _)

pub loop-i-preserved : goal.loop-i-preserved
loop-i-preserved c =
    let i = c.loop-i.i in
    let long = length-take c.places.result c.args.s in
    let share : c.from.result ≡ get_or c.args.s i 0 = c.from.ensures ∙ get_or-take c.places.result c.args.s i 0 (omega arith) in
    rw rows_step (puts_as (puts_then c.loop-i.invariant c.put_share_line.ensures (omega arith)) (rw share) (omega arith))

pub returns : goal.returns
returns c =
    let long = length-take c.places.result c.args.s in
    let end : c.loop-i.i ≡ c.args.n = omega arith in
    puts_as c.loop-i.invariant (rw end) (omega arith)
