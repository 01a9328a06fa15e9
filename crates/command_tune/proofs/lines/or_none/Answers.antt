-- `or_none` is right because its body is the definition.
use borrow.Author.Tests.{eq-eqb, ne_eqb}
use Rattle.command_tune.specs.Lines.{or_none}
use Rattle.command_tune.proofs.lines.or_none.Goals as goal

pub returns-then-x-eq0 : goal.returns-then-x-eq0
unfolding or_none
returns-then-x-eq0 c =
    rw (eq-eqb _ _ c.if-x-eq0.true) c.bare.ensures

pub returns : goal.returns
unfolding or_none
returns c =
    rw (ne_eqb _ _ c.if-x-eq0.false) c.one.ensures
