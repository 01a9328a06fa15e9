-- `put_done` is right because it puts the refusal, or the word.
use mathlib.Core.Path.{sym, ◌∙◌}
use native.Mathlib.Omega.{arith}
use Rattle.text.proofs.TextLaws.{text_accepted, text_refused, refused_short, line_one}
use Rattle.text.proofs.PageLaws.{puts, puts_as, end_then}
use Rattle.command_run.proofs.put_done.Goals as goal

pub returns-then-number-ne-ACCEPTED : goal.returns-then-number-ne-ACCEPTED
returns-then-number-ne-ACCEPTED c =
    puts_as (puts c.put_refused.ensures (omega (arith, c.requires.1)) (refused_short _)) (sym (text_refused _ _ c.if-number-ne-ACCEPTED.true)) (omega arith)

pub returns : goal.returns
returns c =
    let room = c.requires.1 in
    let one = puts c.put_short.ensures (omega (arith, room)) c.requires.0 in
    puts_as (end_then one c.put_end.ensures (omega (arith, room)))
    (sym (line_one _) ∙ sym (text_accepted _ _ c.if-number-ne-ACCEPTED.false)) (omega arith)
