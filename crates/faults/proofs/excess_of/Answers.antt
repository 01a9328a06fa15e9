-- `excess_of` is right because its body is the definition.
use mathlib.Core.Path.{refl, ◌∙◌}
use borrow.Author.Tests.{eq-eqb, ne_eqb}
use Rattle.faults.specs.Holdings.{excess_of}
use Rattle.faults.proofs.excess_of.Goals as goal

pub returns-then-h-eq-FDDI : goal.returns-then-h-eq-FDDI
unfolding excess_of
returns-then-h-eq-FDDI c =
    rw (eq-eqb _ _ c.if-h-eq-FDDI.true) refl

pub returns : goal.returns
unfolding excess_of
returns c =
    rw (ne_eqb _ _ c.if-h-eq-FDDI.false)
    (c.saturating_sub.ensures ∙ rw (c.smallest.ensures.is, c.from.ensures) refl)
