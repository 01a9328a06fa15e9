-- `line_count` is right because its tests are the definition's.
use mathlib.Core.Path.{refl, sym, ◌∙◌}
use borrow.Author.Tests.{eq-eqb, ne_eqb}
use Rattle.command_tune.proofs.LineLaws.{count_refused, count_accepted}
use Rattle.command_tune.proofs.line_count.Goals as goal

pub returns-then-k-ne-ACCEPTED : goal.returns-then-k-ne-ACCEPTED
returns-then-k-ne-ACCEPTED c =
    sym (count_refused _ _ c.if-k-ne-ACCEPTED.true)

pub returns-then-k-eq0 : goal.returns-then-k-eq0
returns-then-k-eq0 c =
    sym (count_accepted _ _ c.if-k-ne-ACCEPTED.false ∙ rw (eq-eqb _ _ c.if-k-eq0.true) refl)

pub returns : goal.returns
returns c =
    sym (count_accepted _ _ c.if-k-ne-ACCEPTED.false ∙ rw (ne_eqb _ _ c.if-k-eq0.false) refl)
