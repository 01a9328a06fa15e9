-- `zeros_from` is right because each turn tests one more byte.
use Prim.Native.Nat.{◌+◌}
use mathlib.Core.Path.{◌≡◌}
use lib.Dec.{eqb}
use Rattle.units.specs.Places.{at, all_below}
use Rattle.versions.proofs.area.zeros_from.Given as goal

abbrev pub invariant-loop-byte : goal.invariant-loop-byte
invariant-loop-byte l =
    l.all ≡ all_below l.byte-index (λ k. eqb (at l.area (l.from + k)) 0)
