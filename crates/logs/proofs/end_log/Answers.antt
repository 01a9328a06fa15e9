-- `end_log` is right because it answers by the number of what was put.
use Rattle.std.proofs.Common.{◌+◌, ◌≤◌, length, sym, ◌∙◌, arith}
use Rattle.logs.proofs.WritingLaws.{room_fits, end_number_lem, ended_refused, ended_all}
use Rattle.logs.proofs.end_log.Goals as goal

pub returns-then-number-ne-ACCEPTED : goal.returns-then-number-ne-ACCEPTED
returns-then-number-ne-ACCEPTED c =
    ended_refused _ _ _ _ c.put_end-number.ensures c.if-number-ne-ACCEPTED.true

pub overflow_add-result : goal.overflow_add-result
overflow_add-result c =
    let args = c.args in
    let fit : args.recorder.at + 3 ≤ length args.out.now = room_fits _ _ (sym (end_number_lem args.recorder _ _ _ c.put_end-number.ensures) ∙ c.if-number-ne-ACCEPTED.false) in
    omega arith

pub returns : goal.returns
returns c =
    ended_all _ _ _ _ c.put_end-number.ensures c.if-number-ne-ACCEPTED.false
