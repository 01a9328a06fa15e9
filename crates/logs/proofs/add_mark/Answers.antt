-- `add_mark` is right because it answers by the number of what was put.
use Rattle.std.proofs.Common.{◌+◌, ◌≤◌, length, sym, ◌∙◌, arith}
use Rattle.logs.proofs.WritingLaws.{room_fits, mark_number_lem, marked_refused, marked_all}
use Rattle.logs.proofs.add_mark.Goals as goal

pub returns-then-number-ne-ACCEPTED : goal.returns-then-number-ne-ACCEPTED
returns-then-number-ne-ACCEPTED c =
    let args = c.args in
    rw c.stopped.ensures (marked_refused args.recorder args.mark args.out.now _ _ c.put_mark-number.ensures c.if-number-ne-ACCEPTED.true)

pub overflow_add-result : goal.overflow_add-result
overflow_add-result c =
    let args = c.args in
    let fit : args.recorder.at + 5 + 3 ≤ length args.out.now = room_fits _ _ (sym (mark_number_lem args.recorder args.mark args.out.now _ _ c.put_mark-number.ensures) ∙ c.if-number-ne-ACCEPTED.false) in
    omega arith

pub returns : goal.returns
returns c =
    let args = c.args in
    marked_all args.recorder args.mark args.out.now _ _ c.put_mark-number.ensures c.if-number-ne-ACCEPTED.false
