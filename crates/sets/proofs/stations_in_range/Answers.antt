-- `stations_in_range` is right because its flag is the test over the stations passed, and it passes the first n.
use mathlib.Core.Path.{◌≡◌, sym, ◌∙◌}
use native.Mathlib.Omega.{arith}
use Rattle.units.proofs.PlaceLaws.{all_then, all_none}
use Rattle.sets.proofs.stations_in_range.Goals as goal

pub loop-i-init : goal.loop-i-init
loop-i-init c =
    sym (all_none _)

pub loop-i-preserved : goal.loop-i-preserved
loop-i-preserved c =
    all_then _ _ _ _ c.loop-i.invariant c.station_in_range-all.ensures

pub returns : goal.returns
returns c =
    let end : c.loop-i.i ≡ c.args.n = omega arith in
    c.loop-i.invariant ∙ rw end
