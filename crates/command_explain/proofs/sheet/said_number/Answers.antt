-- `said_number` is right because its body is the definition.
use mathlib.Core.Path.{refl}
use borrow.Author.Tests.{eq-eqb, ne_eqb}
use Rattle.command_explain.specs.Sheet.{said_number}
use Rattle.command_explain.proofs.sheet.said_number.Goals as goal

pub returns-then-number-eq0 : goal.returns-then-number-eq0
unfolding said_number
returns-then-number-eq0 c =
    rw (eq-eqb _ _ c.if-number-eq0.true) c.byte_or_zero.ensures.is

pub returns : goal.returns
unfolding said_number
returns c =
    rw (ne_eqb _ _ c.if-number-eq0.false) refl
