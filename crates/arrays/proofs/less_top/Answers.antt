-- `less_top` is right because its branch is the definition's.
use mathlib.Core.Path.{sym}
use Rattle.arrays.proofs.LapLaws.{lapped_up, lapped_same}
use Rattle.arrays.proofs.less_top.Goals as goal

pub returns-then-top-t : goal.returns-then-top-t
returns-then-top-t c =
    sym (lapped_up _ _ c.if-top-t.true)

pub returns-else-top-t : goal.returns-else-top-t
returns-else-top-t c =
    sym (lapped_same _ _ c.if-top-t.false)
