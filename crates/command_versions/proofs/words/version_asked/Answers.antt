-- `version_asked` is right because a number of more than 32 bits is read as the first above them.
use mathlib.Core.Path.{refl, sym, ◌∙◌}
use native.Mathlib.Omega.{arith}
use borrow.Author.Tests.{eq-eqb, ne_eqb}
use Rattle.command_versions.proofs.words.version_asked.Goals as goal

pub returns-then-value-eq-ABOVE : goal.returns-then-value-eq-ABOVE
returns-then-value-eq-ABOVE c =
    rw (eq-eqb _ _ (sym c.value_of-value.ensures.is ∙ c.if-value-eq-ABOVE.true)) refl

pub overflow_cast-result : goal.overflow_cast-result
overflow_cast-result c =
    omega (arith, c.value_of-value.ensures.small)

pub returns : goal.returns
returns c =
    let is = c.value_of-value.ensures.is in
    rw (ne_eqb _ _ (λ e. c.if-value-eq-ABOVE.false (is ∙ e))) is
