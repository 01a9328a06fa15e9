-- `record_mark` is right because the mark of an accepted call is added, and that of a refused one is not.
use Rattle.command_log.proofs.RecordLaws.{mark_skipped, mark_added}
use Rattle.command_log.proofs.record_mark.Goals as goal

pub returns-then-number-eq-ACCEPTED : goal.returns-then-number-eq-ACCEPTED
returns-then-number-eq-ACCEPTED c =
    mark_added _ _ _ _ _ _ c.if-number-eq-ACCEPTED.true c.requires c.add_mark.ensures

pub returns : goal.returns
returns c =
    mark_skipped _ _ _ _ c.if-number-eq-ACCEPTED.false
