-- `number_out` is right because it asks for the words in the definition's order.
use mathlib.Core.Path.{refl}
use borrow.Author.Tests.{eq-eqb, ne_eqb}
use Rattle.text_faults.specs.Ranges.{number_out}
use Rattle.text_faults.proofs.ranges.number_out.Goals as goal

pub returns-then-s-eq-TTRT : goal.returns-then-s-eq-TTRT
unfolding number_out
returns-then-s-eq-TTRT c =
    rw (eq-eqb _ _ c.if-s-eq-TTRT.true) c.unless.ensures

pub returns-then-s-eq-MODE : goal.returns-then-s-eq-MODE
unfolding number_out
returns-then-s-eq-MODE c =
    rw (ne_eqb _ _ c.if-s-eq-TTRT.false, eq-eqb _ _ c.if-s-eq-MODE.true) c.unless-then-s-eq-MODE.ensures

pub returns-then-s-eq-FRAME : goal.returns-then-s-eq-FRAME
unfolding number_out
returns-then-s-eq-FRAME c =
    rw (ne_eqb _ _ c.if-s-eq-TTRT.false, ne_eqb _ _ c.if-s-eq-MODE.false, eq-eqb _ _ c.if-s-eq-FRAME.true) c.unless-then-s-eq-FRAME.ensures

pub returns-then-s-eq-GRID : goal.returns-then-s-eq-GRID
unfolding number_out
returns-then-s-eq-GRID c =
    rw (ne_eqb _ _ c.if-s-eq-TTRT.false, ne_eqb _ _ c.if-s-eq-MODE.false, ne_eqb _ _ c.if-s-eq-FRAME.false, eq-eqb _ _ c.if-s-eq-GRID.true) c.unless-then-s-eq-GRID.ensures

pub returns-then-s-eq-STATION : goal.returns-then-s-eq-STATION
unfolding number_out
returns-then-s-eq-STATION c =
    rw (ne_eqb _ _ c.if-s-eq-TTRT.false, ne_eqb _ _ c.if-s-eq-MODE.false, ne_eqb _ _ c.if-s-eq-FRAME.false, ne_eqb _ _ c.if-s-eq-GRID.false, eq-eqb _ _ c.if-s-eq-STATION.true) c.station_out.ensures

pub returns : goal.returns
unfolding number_out
returns c =
    rw (ne_eqb _ _ c.if-s-eq-TTRT.false, ne_eqb _ _ c.if-s-eq-MODE.false, ne_eqb _ _ c.if-s-eq-FRAME.false, ne_eqb _ _ c.if-s-eq-GRID.false, ne_eqb _ _ c.if-s-eq-STATION.false) refl
