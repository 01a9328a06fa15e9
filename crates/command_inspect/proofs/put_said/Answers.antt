-- `put_said` is right because it goes by the number, and then by the rule.
use Prim.Native.Nat.{ℕ}
use mathlib.Core.Path.{sym, ap, ◌∙◌}
use native.Mathlib.Omega.{arith}
use Rattle.text.specs.Text.{refused_line}
use Rattle.text.proofs.TextLaws.{refused_short}
use Rattle.text.proofs.PageLaws.{puts, puts_as}
use Rattle.command_inspect.proofs.LineLaws.{refused_text, accepted_text, broken_text_lem}
use Rattle.command_inspect.proofs.put_said.Goals as goal

pub returns-then-number-ne-ACCEPTED : goal.returns-then-number-ne-ACCEPTED
returns-then-number-ne-ACCEPTED c =
    let number = c.number_of-number.ensures in
    puts_as (puts c.put_refused.ensures (omega (arith, c.requires)) (refused_short _))
    (ap (λ (n : ℕ). refused_line n) number ∙ refused_text c.args.inspecting (λ z. c.if-number-ne-ACCEPTED.true (number ∙ z))) (omega arith)

pub returns-then-state-eq0 : goal.returns-then-state-eq0
returns-then-state-eq0 c =
    puts_as c.put_accepted.ensures (accepted_text c.args.inspecting (sym c.number_of-number.ensures ∙ c.if-number-ne-ACCEPTED.false) c.if-state-eq0.true) (omega arith)

pub returns : goal.returns
returns c =
    puts_as c.put_broken.ensures (broken_text_lem c.args.inspecting (sym c.number_of-number.ensures ∙ c.if-number-ne-ACCEPTED.false) c.if-state-eq0.false) (omega arith)
