-- `end_line` is right because what the line did is printed, and the next line begins.
use Rattle.command_hopper.proofs.TextLaws.{ended}
use Rattle.command_hopper.proofs.change_lines.end_line.Goals as goal

pub returns : goal.returns
returns c =
    rw (c.fresh.ensures, c.next_line.ensures, c.is_unread.ensures) (ended _ _ _ _ _ c.line_changed-done.ensures c.put_change-length.ensures)
