-- `record_answer` is right because a visit, a marking and an unmarking are recorded, and no other answer is.
use Rattle.command_log.specs.LogBytes.{visits_in, entries_by}
use Rattle.command_log.proofs.RecordLaws.{records_none}
use Rattle.command_log.proofs.record_answer.Goals as goal

pub returns-in-Nothing : goal.returns-in-Nothing
unfolding visits_in entries_by
returns-in-Nothing c =
    rw c.in-Nothing.is (records_none _ _)

pub returns-in-Visit : goal.returns-in-Visit
unfolding visits_in entries_by
returns-in-Visit c =
    rw c.in-Visit.is c.record_visit.ensures

pub returns-in-HandIn : goal.returns-in-HandIn
unfolding visits_in entries_by
returns-in-HandIn c =
    rw c.in-HandIn.is (records_none _ _)

pub returns-in-Mark : goal.returns-in-Mark
unfolding visits_in entries_by
returns-in-Mark c =
    rw c.in-Mark.is (rw c.mark_of.ensures at c.record_mark.ensures)

pub returns-in-Unmark : goal.returns-in-Unmark
unfolding visits_in entries_by
returns-in-Unmark c =
    rw c.in-Unmark.is (rw c.mark_of-in-Unmark.ensures at c.record_mark-in-Unmark.ensures)

pub returns-in-Unread : goal.returns-in-Unread
unfolding visits_in entries_by
returns-in-Unread c =
    rw c.in-Unread.is (records_none _ _)
