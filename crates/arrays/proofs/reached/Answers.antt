-- `reached` is right because its branch is the definition's.
use mathlib.Core.Path.{sym}
use Rattle.arrays.proofs.LapLaws.{lap_up, lap_none}
use Rattle.arrays.proofs.reached.Goals as goal

pub returns-then-top-t : goal.returns-then-top-t
returns-then-top-t c =
    sym (lap_up _ _ c.if-top-t.true)

pub returns-else-top-t : goal.returns-else-top-t
returns-else-top-t c =
    sym (lap_none _ _ c.if-top-t.false)
