-- `messages` is right because the places passed hold the longest messages of their wagons, and every other is still 0.
use mathlib.Core.Path.{◌≡◌, sym, ◌∙◌}
use native.Mathlib.Omega.{arith}
use Rattle.units.specs.Places.{zeros}
use Rattle.units.proofs.PlaceLaws.{fill_none, fill_then}
use Rattle.hopper.specs.Requests.{longest_at}
use Rattle.hopper.proofs.requests.messages.Goals as goal

pub loop-i-init : goal.loop-i-init
loop-i-init c =
    sym (fill_none _ _)

pub longest-requires : goal.longest-requires
longest-requires c =
    c.requires.wagons c.loop-i.i (omega arith)

pub loop-i-preserved : goal.loop-i-preserved
loop-i-preserved c =
    fill_then c.loop-i.i (longest_at c.args.list) zeros _ _ c.loop-i.invariant c.longest.ensures

pub returns : goal.returns
returns c =
    let end : c.loop-i.i ≡ c.args.list.n = omega arith in
    c.loop-i.invariant ∙ rw end
