-- `most_of` is right because its body is the definition.
use mathlib.Core.Path.{refl}
use borrow.Author.Tests.{eq-eqb, ne_eqb}
use Rattle.text_faults.specs.Lines.{most_of}
use Rattle.text_faults.proofs.lines.most_of.Goals as goal

pub returns-then-word-eq-STATION : goal.returns-then-word-eq-STATION
unfolding most_of
returns-then-word-eq-STATION c =
    rw (eq-eqb _ _ c.if-word-eq-STATION.true) refl

pub returns : goal.returns
unfolding most_of
returns c =
    rw (ne_eqb _ _ c.if-word-eq-STATION.false) c.least_of.ensures
