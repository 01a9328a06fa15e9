-- `place_of` is right because each turn comes by one more field, and a version stands there.
use mathlib.Core.Path.{◌≡◌}
use Rattle.versions.specs.Area.{place_of}
use Rattle.versions.proofs.area.place_of.Given as goal

abbrev pub invariant-loop : goal.invariant-loop
invariant-loop l =
    l.at ≡ place_of l.area l.counter
