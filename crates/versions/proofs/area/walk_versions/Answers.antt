-- `walk_versions` is right because each turn comes by one more place.
use mathlib.Core.Path.{◌≡◌, ap, ◌∙◌}
use native.Mathlib.Omega.{arith}
use Rattle.versions.specs.Bounds.{walked_to}
use Rattle.versions.proofs.AreaLaws.{walk_begins}
use Rattle.versions.proofs.area.walk_versions.Goals as goal

pub loop-k-init : goal.loop-k-init
loop-k-init c =
    walk_begins _

pub walk_on-walked-requires : goal.walk_on-walked-requires
walk_on-walked-requires c =
    record { begun = c.requires; few = omega arith; so_far = c.loop-k.invariant }

pub returns : goal.returns
returns c =
    let all : c.loop-k.k ≡ 16 = omega arith in
    c.loop-k.invariant ∙ ap (walked_to _) all
