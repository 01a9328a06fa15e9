-- `status_of` is right because it asks for the number 0, as the definition does.
use mathlib.Core.Path.{refl}
use borrow.Author.Tests.{eq-eqb, ne_eqb}
use Rattle.commands.specs.Status.{status_of}
use Rattle.commands.proofs.status.status_of.Goals as goal

pub returns-then-number-eq0 : goal.returns-then-number-eq0
unfolding status_of
returns-then-number-eq0 c =
    rw (eq-eqb _ _ c.if-number-eq0.true) refl

pub returns : goal.returns
unfolding status_of
returns c =
    rw (ne_eqb _ _ c.if-number-eq0.false) refl
