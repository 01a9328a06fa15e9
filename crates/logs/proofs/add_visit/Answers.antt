-- `add_visit` is right because it answers by the number of what was put.
use Rattle.std.proofs.Common.{◌+◌, ◌≤◌, length, sym, ap, ◌∙◌, subst, arith}
use Rattle.log_records.specs.Visit.{visit_bytes}
use Rattle.log_records.specs.declared.VisitEntry.{VisitEntry}
use Rattle.sheets.specs.Writing.{PutAt}
use Rattle.logs.specs.Writing.{visit_by}
use Rattle.logs.proofs.WritingLaws.{room_fits, visit_number_lem, added_refused, added_all}
use Rattle.logs.proofs.add_visit.Goals as goal

pub returns-then-number-ne-ACCEPTED : goal.returns-then-number-ne-ACCEPTED
returns-then-number-ne-ACCEPTED c =
    let put_said : let args = c.args in
    PutAt args.recorder.at (visit_bytes (visit_by args.recorder args.visit)) 3 args.out.now c.put_visit-number.new.out c.put_visit-number.result = let args = c.args in
    subst (λ (e : VisitEntry). PutAt args.recorder.at (visit_bytes e) 3 args.out.now c.put_visit-number.new.out c.put_visit-number.result) c.visit_of-entry.ensures c.put_visit-number.ensures in
    let args = c.args in
    rw c.stopped.ensures (added_refused args.recorder args.visit args.out.now _ _ put_said c.if-number-ne-ACCEPTED.true)

pub overflow_add-result : goal.overflow_add-result
overflow_add-result c =
    let put_said : let args = c.args in
    PutAt args.recorder.at (visit_bytes (visit_by args.recorder args.visit)) 3 args.out.now c.put_visit-number.new.out c.put_visit-number.result = let args = c.args in
    subst (λ (e : VisitEntry). PutAt args.recorder.at (visit_bytes e) 3 args.out.now c.put_visit-number.new.out c.put_visit-number.result) c.visit_of-entry.ensures c.put_visit-number.ensures in
    let args = c.args in
    let fit : args.recorder.at + 20 + 3 ≤ length args.out.now = room_fits _ _ (sym (visit_number_lem args.recorder args.visit args.out.now _ _ put_said) ∙ c.if-number-ne-ACCEPTED.false) in
    omega arith

pub returns : goal.returns
returns c =
    let put_said : let args = c.args in
    PutAt args.recorder.at (visit_bytes (visit_by args.recorder args.visit)) 3 args.out.now c.put_visit-number.new.out c.put_visit-number.result = let args = c.args in
    subst (λ (e : VisitEntry). PutAt args.recorder.at (visit_bytes e) 3 args.out.now c.put_visit-number.new.out c.put_visit-number.result) c.visit_of-entry.ensures c.put_visit-number.ensures in
    let args = c.args in
    let counter = ap (λ (e : VisitEntry). e.start) c.visit_of-entry.ensures in
    rw counter (added_all args.recorder args.visit args.out.now _ _ put_said c.if-number-ne-ACCEPTED.false)
