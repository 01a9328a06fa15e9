-- `put_visit` is right because it puts the refusal, or the visit's line.
use mathlib.Core.Path.{sym}
use native.Mathlib.Omega.{arith}
use Rattle.text.proofs.TextLaws.{text_accepted, text_refused, refused_short}
use Rattle.text.proofs.PageLaws.{puts, puts_as}
use Rattle.command_run.proofs.put_visit.Goals as goal

pub returns-then-answer-ne-ACCEPTED : goal.returns-then-answer-ne-ACCEPTED
returns-then-answer-ne-ACCEPTED c =
    puts_as (puts c.put_refused.ensures (omega (arith, c.requires)) (refused_short _)) (sym (text_refused _ _ c.if-answer-ne-ACCEPTED.true)) (omega arith)

pub returns : goal.returns
returns c =
    puts_as c.put_visit_line.ensures (sym (text_accepted _ _ c.if-answer-ne-ACCEPTED.false)) (omega arith)
