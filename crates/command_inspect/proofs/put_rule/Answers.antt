-- `put_rule` is right because it goes by the rule's number, as the definition does.
use mathlib.Core.Path.{◌≡◌, refl, ap}
use mathlib.Core.List.{List, ◌∷◌}
use Prim.Native.Nat.{ℕ}
use native.Mathlib.Omega.{arith}
use Rattle.std.proofs.lemmas.Grind.{common_steps}
use Rattle.text.specs.Text.{space}
use Rattle.text.proofs.PageLaws.{puts, puts_as}
use Rattle.command_inspect.specs.FindingText.{asynchronous_word, rule_word}
use Rattle.command_inspect.proofs.put_rule.Goals as goal

pub returns-in-1 : goal.returns-in-1
unfolding rule_word
returns-in-1 c =
    rw c.in-1.is (puts_as (puts c.put_short.ensures (omega (arith, c.requires)) (omega arith)) refl (omega arith))

pub returns-in-2 : goal.returns-in-2
unfolding rule_word
returns-in-2 c =
    rw c.in-2.is (puts_as (puts c.put_short-in-2.ensures (omega (arith, c.requires)) (omega arith)) refl (omega arith))

pub returns-in-3 : goal.returns-in-3
unfolding rule_word
returns-in-3 c =
    rw c.in-3.is (puts_as (puts c.put_short-in-3.ensures (omega (arith, c.requires)) (omega arith)) refl (omega arith))

pub returns-in-4 : goal.returns-in-4
unfolding rule_word
returns-in-4 c =
    rw c.in-4.is (puts_as (puts c.put_short-in-4.ensures (omega (arith, c.requires)) (omega arith)) refl (omega arith))

pub returns-in_default : goal.returns-in_default
unfolding rule_word
returns-in_default c =
    let last : asynchronous_word ≡ rule_word c.args.rule = grind (arith, common_steps) in
    puts_as (puts c.put_short-in_default.ensures (omega (arith, c.requires)) (omega arith)) (ap (λ (w : List ℕ). space ∷ w) last) (omega arith)
