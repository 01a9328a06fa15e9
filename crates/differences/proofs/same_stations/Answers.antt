-- `same_stations` is right because its flag says of the stations passed that nothing differs.
use mathlib.Core.Path.{◌≡◌, sym, ◌∙◌}
use native.Mathlib.Omega.{arith}
use Rattle.differences.proofs.NoneLaws.{none_begun, none_step}
use Rattle.differences.proofs.same_stations.Goals as goal

pub loop-i-init : goal.loop-i-init
loop-i-init c =
    sym (none_begun _)

pub loop-i-preserved : goal.loop-i-preserved
loop-i-preserved c =
    rw (c.loop-i.invariant, c.same_station-all.ensures) (sym (none_step _ _))

pub returns : goal.returns
returns c =
    let end : c.loop-i.i ≡ c.args.n = omega arith in
    c.loop-i.invariant ∙ rw end
