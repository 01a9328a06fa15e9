-- `own` is right because its body is the definition.
use borrow.Author.Tests.{eq-eqb, ne_eqb}
use Rattle.command_tune.specs.Lines.{own_line}
use Rattle.command_tune.proofs.lines.own.Goals as goal

pub returns-then-number-eq0 : goal.returns-then-number-eq0
unfolding own_line
returns-then-number-eq0 c =
    rw (eq-eqb _ _ c.if-number-eq0.true) c.one.ensures

pub returns : goal.returns
unfolding own_line
returns c =
    rw (ne_eqb _ _ c.if-number-eq0.false) (rw c.from.ensures at c.two.ensures)
