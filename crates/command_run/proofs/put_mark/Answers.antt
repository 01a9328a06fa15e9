-- `put_mark` is right because it puts the refusal, or that the station is marked and what was withdrawn.
use mathlib.Core.Path.{sym, ◌∙◌}
use native.Mathlib.Omega.{arith}
use Rattle.text.proofs.TextLaws.{text_accepted, text_refused, refused_short, line_first}
use Rattle.text.proofs.PageLaws.{puts, puts_then, puts_as}
use Rattle.command_run.proofs.put_mark.Goals as goal

pub returns-then-answer-ne-ACCEPTED : goal.returns-then-answer-ne-ACCEPTED
returns-then-answer-ne-ACCEPTED c =
    puts_as (puts c.put_refused.ensures (omega (arith, c.requires)) (refused_short _)) (sym (text_refused _ _ c.if-answer-ne-ACCEPTED.true)) (omega arith)

pub returns : goal.returns
returns c =
    let room = c.requires in
    let one = puts c.put_short.ensures (omega (arith, room)) (omega arith) in
    puts_as (puts_then one c.put_withdrawn.ensures (omega (arith, room)))
    (sym (line_first _ _) ∙ sym (text_accepted _ _ c.if-answer-ne-ACCEPTED.false)) (omega arith)
