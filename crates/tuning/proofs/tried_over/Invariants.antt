-- `tried_over` is right because after i turns the first i TTRT have been tried.
use mathlib.Core.Path.{◌≡◌}
use Rattle.tuning.specs.Bounds.{tried_over}
use Rattle.tuning.proofs.tried_over.Given as goal

abbrev pub invariant-loop-i : goal.invariant-loop-i
invariant-loop-i l =
    l.seen ≡ tried_over l.h l.c l.d l.from l.i l.initial.seen
