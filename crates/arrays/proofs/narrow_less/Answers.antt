-- `narrow_less` is right because its branch is the definition's.
use mathlib.Core.Path.{sym}
use Rattle.arrays.proofs.LapLaws.{lapped_up, lapped_same}
use Rattle.arrays.proofs.narrow_less.Goals as goal

pub returns-then-top-number : goal.returns-then-top-number
returns-then-top-number c =
    sym (lapped_up _ _ c.if-top-number.true)

pub returns-else-top-number : goal.returns-else-top-number
returns-else-top-number c =
    sym (lapped_same _ _ c.if-top-number.false)
