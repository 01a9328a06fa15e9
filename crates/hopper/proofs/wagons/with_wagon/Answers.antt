-- `with_wagon` is right because its branch is the definition's, and so are its three stores.
use mathlib.Core.Path.{sym}
use Rattle.hopper.proofs.WagonLaws.{with_past, with_at}
use Rattle.hopper.proofs.wagons.with_wagon.Goals as goal

pub returns-then-place-ge12 : goal.returns-then-place-ge12
returns-then-place-ge12 c =
    sym (with_past _ _ _ c.if-place-ge12.true)

pub returns : goal.returns
returns c =
    sym (with_at _ _ _ c.if-place-ge12.false)
