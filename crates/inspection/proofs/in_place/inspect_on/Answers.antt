-- `inspect_on` is right because a refused record and one behind a broken rule leave the arrays, and any other is one step.
use Rattle.std.proofs.Common.{◌≡◌, sym, ◌∙◌}
use Rattle.inspection.specs.Kept.{standing, kept_of, inspection_in, next_of}
use Rattle.inspection.specs.declared.KeptInspection.{KeptInspection}
use Rattle.inspection.proofs.KeptLaws.{entry_visit, entry_mark, record_refused, record_behind, record_stepped}
use Rattle.inspection.proofs.in_place.inspect_on.Goals as goal

pub returns-then-number-ne-ACCEPTED : goal.returns-then-number-ne-ACCEPTED
returns-then-number-ne-ACCEPTED c =
    let lent : KeptInspection = let a = c.args in kept_of a.w.now a.s.now a.base.now a.sent.now a.mark.now a.head a.n a.progress in
    record_refused lent c.args.told _ c.record_number-number.ensures c.if-number-ne-ACCEPTED.true _ c.refused_record.ensures

pub returns-then-progress-ne0 : goal.returns-then-progress-ne0
returns-then-progress-ne0 c =
    let lent : KeptInspection = let a = c.args in kept_of a.w.now a.s.now a.base.now a.sent.now a.mark.now a.head a.n a.progress in
    let progress = c.args.progress in
    record_behind lent c.args.told _ c.record_number-number.ensures c.if-number-ne-ACCEPTED.false c.if-progress-ne0.true _
    (c.next_of.ensures ∙ (λ i. next_of (c.course_in-course.ensures i) progress.records progress.rule (c.none_compared-none.ensures i)))

pub returns-then-told-from : goal.returns-then-told-from
returns-then-told-from c =
    let lent : KeptInspection = let a = c.args in kept_of a.w.now a.s.now a.base.now a.sent.now a.mark.now a.head a.n a.progress in
    let same : let a = c.args in standing a.base.now a.sent.now a.mark.now c.course_in-course.result a.progress.records 0 ≡ inspection_in (lent) = let a = c.args in
    λ i. standing a.base.now a.sent.now a.mark.now (c.course_in-course.ensures i) a.progress.records (sym c.if-progress-ne0.false i) in
    let told = c.args.told in
    record_stepped lent told _ c.record_number-number.ensures c.if-number-ne-ACCEPTED.false c.if-progress-ne0.false _ _ _ _ same (entry_visit told (c.if-told-from.true ∙ c.from.ensures)) c.visit_on-step.ensures _ c.next_of-then-told-from.ensures

pub returns : goal.returns
returns c =
    let lent : KeptInspection = let a = c.args in kept_of a.w.now a.s.now a.base.now a.sent.now a.mark.now a.head a.n a.progress in
    let same : let a = c.args in standing a.base.now a.sent.now a.mark.now c.course_in-course.result a.progress.records 0 ≡ inspection_in (lent) = let a = c.args in
    λ i. standing a.base.now a.sent.now a.mark.now (c.course_in-course.ensures i) a.progress.records (sym c.if-progress-ne0.false i) in
    let a = c.args in
    record_stepped lent a.told _ c.record_number-number.ensures c.if-number-ne-ACCEPTED.false c.if-progress-ne0.false _ _ _ _ same (entry_mark a.told (λ e. c.if-told-from.false (e ∙ sym c.from.ensures)))
    (c.mark_on-step.ensures.stepped a.base.now a.sent.now a.w.now a.s.now a.head) _ c.next_of-2.ensures
