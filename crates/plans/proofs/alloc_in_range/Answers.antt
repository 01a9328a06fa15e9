-- `alloc_in_range` is right because its flag is the test over the stations passed, and it passes the first n.
use mathlib.Core.Path.{◌≡◌, refl, sym, ◌∙◌}
use native.Mathlib.Omega.{arith}
use Rattle.std.proofs.lemmas.List.{get_or-take}
use Rattle.units.specs.Places.{at}
use Rattle.units.proofs.PlaceLaws.{all_then, all_none}
use Rattle.plans.specs.Rules.{in_range_s}
use Rattle.plans.proofs.alloc_in_range.Goals as goal

pub loop-share-init : goal.loop-share-init
loop-share-init c =
    sym (all_none _)

pub loop-share-preserved : goal.loop-share-preserved
loop-share-preserved c =
    let i = c.loop-share.share-index in
    let its = get_or-take c.places.result c.args.s.now i 0 (omega arith) in
    rw its (all_then i (in_range_s (at c.args.s.now)) _ _ c.loop-share.invariant refl)

pub returns : goal.returns
returns c =
    let end : c.loop-share.share-index ≡ c.args.n = omega arith in
    c.loop-share.invariant ∙ rw end
