-- `put_aim` is right because it goes by the rule's number, as the definition does.
use mathlib.Core.Path.{◌≡◌, refl}
use mathlib.Core.Bool.{true, false, ◌||◌}
use native.Mathlib.Omega.{arith}
use lib.Dec.{eqb}
use borrow.Author.Tests.{ne_eqb}
use Rattle.text.proofs.PageLaws.{puts_none, puts, puts_as}
use Rattle.command_inspect.specs.FindingText.{aim_of}
use Rattle.command_inspect.proofs.put_aim.Goals as goal

pub returns-in-1 : goal.returns-in-1
unfolding aim_of
returns-in-1 c =
    rw c.in-1.is (puts_as (puts c.put_short.ensures (omega (arith, c.requires)) (omega arith)) refl (omega arith))

pub returns-in-2 : goal.returns-in-2
unfolding aim_of
returns-in-2 c =
    rw c.in-2.is (puts_as (puts_none _) refl (omega arith))

pub returns-in-3 : goal.returns-in-3
unfolding aim_of
returns-in-3 c =
    rw c.in-3.is (puts_as (puts c.put_short-in-3.ensures (omega (arith, c.requires)) (omega arith)) refl (omega arith))

pub returns-in_default : goal.returns-in_default
unfolding aim_of
returns-in_default c =
    let most : (eqb c.args.rule 4 || eqb c.args.longest 1) ≡ true = c.if-rule-longest.true in
    puts_as (puts c.put_short-in_default.ensures (omega (arith, c.requires)) (omega arith)) (rw (ne_eqb c.args.rule 1 (λ e. omega (arith, e)), ne_eqb c.args.rule 2 (λ e. omega (arith, e)), ne_eqb c.args.rule 3 (λ e. omega (arith, e)), most) refl) (omega arith)

pub returns-in_default-2 : goal.returns-in_default-2
unfolding aim_of
returns-in_default-2 c =
    let frames : (eqb c.args.rule 4 || eqb c.args.longest 1) ≡ false = c.if-rule-longest.false in
    puts_as c.put_frames.ensures (rw (ne_eqb c.args.rule 1 (λ e. omega (arith, e)), ne_eqb c.args.rule 2 (λ e. omega (arith, e)), ne_eqb c.args.rule 3 (λ e. omega (arith, e)), frames) refl) (omega arith)
