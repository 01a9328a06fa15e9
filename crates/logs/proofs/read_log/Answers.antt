-- `read_log` is right because it keeps the fault of the plan's fields, then that of the records, then the number of the judgement.
use Rattle.std.proofs.Common.{sym, ◌∙◌}
use borrow.Author.Tests.{not-true, not-false}
use Rattle.logs.proofs.ReadingLaws.{log_not_all, log_fault, log_judged, log_whole}
use Rattle.logs.proofs.read_log.Goals as goal

pub returns-then-not-start : goal.returns-then-not-start
returns-then-not-start c =
    c.refused.ensures ∙ sym (log_not_all _ _ c.read_start-start.ensures (not-true _ c.if-not-start.true))

pub returns-then-walked-ne-ACCEPTED : goal.returns-then-walked-ne-ACCEPTED
returns-then-walked-ne-ACCEPTED c =
    c.refused-then-walked-ne-ACCEPTED.ensures ∙ sym (log_fault _ _ c.read_start-start.ensures (not-false _ c.if-not-start.false) _ c.walk_records-walked.ensures c.if-walked-ne-ACCEPTED.true)

pub returns-then-start-ne-ACCEPTED : goal.returns-then-start-ne-ACCEPTED
returns-then-start-ne-ACCEPTED c =
    c.refused-then-start-ne-ACCEPTED.ensures
    ∙ sym (log_judged _ _ c.read_start-start.ensures (not-false _ c.if-not-start.false) _ c.walk_records-walked.ensures c.if-walked-ne-ACCEPTED.false c.if-start-ne-ACCEPTED.true)

pub returns : goal.returns
returns c =
    log_whole _ _ c.read_start-start.ensures (not-false _ c.if-not-start.false) _ c.walk_records-walked.ensures c.if-walked-ne-ACCEPTED.false c.if-start-ne-ACCEPTED.false
