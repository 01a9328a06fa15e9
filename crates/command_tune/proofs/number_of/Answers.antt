-- `number_of` is right because its tests are the definition's.
use mathlib.Core.Path.{refl, sym, ◌∙◌}
use borrow.Author.Tests.{eq-eqb, ne_eqb}
use Rattle.command_tune.specs.Lines.{number_of}
use Rattle.sheets.proofs.ReadLaws.{then_keeps, then_rest}
use Rattle.command_tune.proofs.number_of.Goals as goal

pub returns-then-k-ne-ACCEPTED : goal.returns-then-k-ne-ACCEPTED
unfolding number_of
returns-then-k-ne-ACCEPTED c =
    sym (then_keeps _ _ c.if-k-ne-ACCEPTED.true)

pub returns-then-k-eq0 : goal.returns-then-k-eq0
unfolding number_of
returns-then-k-eq0 c =
    sym (then_rest _ _ c.if-k-ne-ACCEPTED.false ∙ rw (eq-eqb _ _ c.if-k-eq0.true) refl)

pub returns : goal.returns
unfolding number_of
returns c =
    sym (then_rest _ _ c.if-k-ne-ACCEPTED.false ∙ rw (ne_eqb _ _ c.if-k-eq0.false) refl)
