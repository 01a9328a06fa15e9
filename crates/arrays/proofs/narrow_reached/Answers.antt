-- `narrow_reached` is right because its branch is the definition's.
use mathlib.Core.Path.{sym}
use Rattle.arrays.proofs.LapLaws.{lap_up, lap_none}
use Rattle.arrays.proofs.narrow_reached.Goals as goal

pub returns-then-top-number : goal.returns-then-top-number
returns-then-top-number c =
    sym (lap_up _ _ c.if-top-number.true)

pub returns-else-top-number : goal.returns-else-top-number
returns-else-top-number c =
    sym (lap_none _ _ c.if-top-number.false)
