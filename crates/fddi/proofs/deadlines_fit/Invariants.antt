-- `deadlines_fit` is right because its flag is the rule over the stations passed, and what is away from a station is the time lost and the others' S.
use Prim.Native.Nat.{ℕ, ◌+◌, min}
use mathlib.Core.Path.{◌≡◌}
use mathlib.Core.Bool.{Bool}
use mathlib.Core.List.{List}
use lib.Dec.{leb}
use Rattle.units.specs.Places.{at, all_below}
use Rattle.fddi.specs.Rules.{others, least_time}
use Rattle.fddi.proofs.deadlines_fit.Given as goal

-- the rule at station i
abbrev pub kept : ℕ → ℕ → ℕ → List ℕ → List ℕ → List ℕ → ℕ → Bool
kept n ttrt lost c d s i = leb (at c i) (least_time ttrt (at d i) (lost + others (min n 128) (at s) i) (at s i))

abbrev pub invariant-loop-i : goal.invariant-loop-i
invariant-loop-i l =
    l.all ≡ all_below l.i (kept l.n l.ttrt l.lost l.c l.d l.s)
