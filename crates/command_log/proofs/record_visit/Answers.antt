-- `record_visit` is right because a visit that was accepted is added, and a refused one is not.
use Rattle.command_log.proofs.RecordLaws.{visit_skipped, visit_added}
use Rattle.command_log.proofs.record_visit.Goals as goal

pub returns-then-visit-ne-ACCEPTED : goal.returns-then-visit-ne-ACCEPTED
returns-then-visit-ne-ACCEPTED c =
    visit_skipped _ _ _ _ c.if-visit-ne-ACCEPTED.true

pub returns : goal.returns
returns c =
    visit_added _ _ _ _ _ c.if-visit-ne-ACCEPTED.false c.requires c.add_visit.ensures
