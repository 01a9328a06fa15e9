-- `put_entry_line` is right because it puts the line of the entry's kind.
use Rattle.command_show_log.proofs.put_entry_line.Goals as goal

pub returns-in-Visit : goal.returns-in-Visit
returns-in-Visit c =
    rw c.in-Visit.is c.put_visit_line.ensures

pub returns-in-Mark : goal.returns-in-Mark
returns-in-Mark c =
    rw c.in-Mark.is c.put_mark_line.ensures
