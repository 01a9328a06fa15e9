-- `walk_versions` is right because each turn comes by one more place.
use mathlib.Core.Path.{◌≡◌}
use Rattle.versions.specs.Bounds.{walked_to}
use Rattle.versions.proofs.area.walk_versions.Given as goal

abbrev pub invariant-loop-k : goal.invariant-loop-k
invariant-loop-k l =
    l.walked ≡ walked_to l.area l.k
