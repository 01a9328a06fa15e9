-- `put_withdrawn` is right because its words are put one behind another, and none where nothing was withdrawn.
use native.Mathlib.Omega.{arith}
use Rattle.text.specs.Text.{line_on}
use Rattle.text.proofs.PageLaws.{puts, puts_as, field_then, end_then}
use Rattle.command_run.specs.RunText.{withdrawn_words}
use Rattle.command_run.proofs.RunLaws.{line_on_three, withdrawn_some}
use Rattle.command_run.proofs.put_withdrawn.Goals as goal

pub returns-then-answer-eq0 : goal.returns-then-answer-eq0
unfolding withdrawn_words line_on
returns-then-answer-eq0 c =
    puts_as (puts c.put_end.ensures (omega (arith, c.requires)) (omega arith)) (rw c.if-answer-eq0.true) (omega arith)

pub returns : goal.returns
returns c =
    let room = c.requires in
    let one = puts c.put_short.ensures (omega (arith, room)) (omega arith) in
    let two = field_then _ one c.put_field.ensures (omega (arith, room)) in
    let three = field_then _ two c.put_field-2.ensures (omega (arith, room)) in
    rw (withdrawn_some _ _ _ c.if-answer-eq0.false, line_on_three) (end_then three c.put_end-2.ensures (omega (arith, room)))
