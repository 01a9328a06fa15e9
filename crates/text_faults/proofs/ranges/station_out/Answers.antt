-- `station_out` is right because it asks for the numbers in the definition's order.
use mathlib.Core.Path.{refl}
use borrow.Author.Tests.{lt-ltb, le-ltb}
use Rattle.text_faults.specs.Ranges.{station_out}
use Rattle.text_faults.proofs.ranges.station_out.Goals as goal

pub returns-then-walk-gt-MOST_WALK : goal.returns-then-walk-gt-MOST_WALK
unfolding station_out
returns-then-walk-gt-MOST_WALK c =
    rw (lt-ltb _ _ c.if-walk-gt-MOST_WALK.true) refl

pub returns-then-longest-gt-MOST_C : goal.returns-then-longest-gt-MOST_C
unfolding station_out
returns-then-longest-gt-MOST_C c =
    rw (le-ltb _ _ c.if-walk-gt-MOST_WALK.false, lt-ltb _ _ c.if-longest-gt-MOST_C.true) refl

pub returns-then-not-due_fits : goal.returns-then-not-due_fits
unfolding station_out
returns-then-not-due_fits c =
    rw (le-ltb _ _ c.if-walk-gt-MOST_WALK.false, le-ltb _ _ c.if-longest-gt-MOST_C.false, c.if-not-due_fits.true) refl

pub returns-then-not-gap_fits : goal.returns-then-not-gap_fits
unfolding station_out
returns-then-not-gap_fits c =
    rw (le-ltb _ _ c.if-walk-gt-MOST_WALK.false, le-ltb _ _ c.if-longest-gt-MOST_C.false, c.if-not-due_fits.false, c.if-not-gap_fits.true) refl

pub returns : goal.returns
unfolding station_out
returns c =
    rw (le-ltb _ _ c.if-walk-gt-MOST_WALK.false, le-ltb _ _ c.if-longest-gt-MOST_C.false, c.if-not-due_fits.false, c.if-not-gap_fits.false) c.unless.ensures
