-- `used_by` is right because its body is the definition.
use mathlib.Core.Path.{refl}
use borrow.Author.Tests.{eq-eqb, ne_eqb}
use Rattle.text.specs.Filled.{used_by}
use Rattle.text.proofs.used_by.Goals as goal

pub returns-then-byte-eq35 : goal.returns-then-byte-eq35
unfolding used_by
returns-then-byte-eq35 c =
    rw (eq-eqb _ _ c.if-byte-eq35.true) refl

pub returns : goal.returns
unfolding used_by
returns c =
    rw (ne_eqb _ _ c.if-byte-eq35.false) refl
