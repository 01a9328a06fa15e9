-- `with_more` is right because its branch is the definition's: a full list is counted on, another has the wagon in its next place.
use mathlib.Core.Path.{sym}
use Rattle.hopper.proofs.WagonLaws.{more_full, more_room}
use Rattle.hopper.proofs.with_more.Goals as goal

pub returns-then-list-ge-MOST_WAGONS : goal.returns-then-list-ge-MOST_WAGONS
returns-then-list-ge-MOST_WAGONS c =
    sym (more_full _ _ c.if-list-ge-MOST_WAGONS.true)

pub returns : goal.returns
returns c =
    rw (c.with_wagon-longer.ensures, c.from.ensures) (sym (more_room _ _ c.if-list-ge-MOST_WAGONS.false))
