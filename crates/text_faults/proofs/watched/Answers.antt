-- `watched` is right because its body is the definition.
use mathlib.Core.Path.{refl, sym, ◌∙◌}
use borrow.Author.Tests.{eq-eqb, ne_eqb}
use Rattle.text_faults.specs.Watching.{watched}
use Rattle.text_faults.proofs.watched.Goals as goal

pub returns-then-is_some : goal.returns-then-is_some
unfolding watched
returns-then-is_some c =
    rw (sym c.is_some.ensures ∙ c.if-is_some.true) refl

pub returns-then-byte-eq10 : goal.returns-then-byte-eq10
unfolding watched
returns-then-byte-eq10 c =
    rw (sym c.is_some.ensures ∙ c.if-is_some.false, eq-eqb _ _ c.if-byte-eq10.true) c.line_ended.ensures

pub returns : goal.returns
unfolding watched
returns c =
    rw (sym c.is_some.ensures ∙ c.if-is_some.false, ne_eqb _ _ c.if-byte-eq10.false, c.found_on-found.ensures, c.step-scan.ensures) refl
