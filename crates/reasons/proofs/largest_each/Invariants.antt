-- `largest_each` is right because the places passed hold the largest C: a station's own S and what is spare are what the others leave to it.
use mathlib.Core.Path.{◌≡◌}
use Rattle.units.specs.Places.{fill, zeros}
use Rattle.reasons.specs.Rooms.{largest_c}
use Rattle.reasons.proofs.largest_each.Given as goal

abbrev pub invariant-loop-i : goal.invariant-loop-i
invariant-loop-i l =
    l.c ≡ fill l.i (largest_c l.t) zeros
