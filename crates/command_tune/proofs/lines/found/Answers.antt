-- `found` is right because it asks for the lines in their order.
use mathlib.Core.Path.{refl, ◌∙◌}
use native.Mathlib.Omega.{arith}
use borrow.Author.Tests.{ne_eqb}
use Rattle.command_tune.specs.Lines.{found_line}
use Rattle.command_tune.proofs.lines.found.Goals as goal

pub returns-in-3 : goal.returns-in-3
unfolding found_line
returns-in-3 c =
    rw c.in-3.is (c.one.ensures ∙ rw c.from.ensures refl)

pub returns-in-4 : goal.returns-in-4
unfolding found_line
returns-in-4 c =
    rw c.in-4.is (c.one-in-4.ensures ∙ rw c.from-in-4.ensures refl)

pub returns-in-5 : goal.returns-in-5
unfolding found_line
returns-in-5 c =
    rw c.in-5.is (c.or_none.ensures ∙ rw c.from-in-5.ensures refl)

pub returns-in-6 : goal.returns-in-6
unfolding found_line
returns-in-6 c =
    rw c.in-6.is (c.or_none-in-6.ensures ∙ rw c.from-in-6.ensures refl)

pub returns-in-7 : goal.returns-in-7
unfolding found_line
returns-in-7 c =
    rw c.in-7.is (c.one-in-7.ensures ∙ rw c.from-in-7.ensures refl)

pub returns-in_default : goal.returns-in_default
unfolding found_line
returns-in_default c =
    rw (ne_eqb c.args.i 3 (λ e. omega (arith, e)), ne_eqb c.args.i 4 (λ e. omega (arith, e)), ne_eqb c.args.i 5 (λ e. omega (arith, e)), ne_eqb c.args.i 6 (λ e. omega (arith, e)), ne_eqb c.args.i 7 (λ e. omega (arith, e)), c.four.ensures, c.from-spare.ensures, c.walk_time-tau.ensures.sum, c.from-best.ensures, c.from-n.ensures) refl
