-- `first` is right because it asks for the lines in their order.
use mathlib.Core.Path.{refl, ◌∙◌}
use native.Mathlib.Omega.{arith}
use borrow.Author.Tests.{ne_eqb}
use Rattle.command_tune.specs.Lines.{first_line}
use Rattle.command_tune.proofs.lines.first.Goals as goal

pub returns-in-0 : goal.returns-in-0
unfolding first_line
returns-in-0 c =
    rw c.in-0.is (c.two.ensures ∙ rw (c.from.ensures, c.from-in-0.ensures) refl)

pub returns-in-1 : goal.returns-in-1
unfolding first_line
returns-in-1 c =
    rw c.in-1.is (c.own.ensures ∙ rw c.from-in-1.ensures refl)

pub returns-in_default : goal.returns-in_default
unfolding first_line
returns-in_default c =
    rw (ne_eqb c.args.i 0 (λ e. omega (arith, e)), ne_eqb c.args.i 1 (λ e. omega (arith, e))) (c.one.ensures ∙ rw c.from-in_default.ensures refl)
