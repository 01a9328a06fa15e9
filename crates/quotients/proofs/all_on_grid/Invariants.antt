-- `all_on_grid` is right because its flag is the test over the numbers passed, and it passes the first n.
use mathlib.Core.Path.{◌≡◌}
use Rattle.units.specs.Places.{at, all_below}
use Rattle.units.specs.Grid.{on_grid_at}
use Rattle.quotients.proofs.all_on_grid.Given as goal

abbrev pub invariant-loop-number : goal.invariant-loop-number
invariant-loop-number l =
    l.all ≡ all_below l.number-index (on_grid_at l.grid (at l.numbers))
