-- `record_drafted` is right because it asks for a record, as the definition does.
use mathlib.Core.Path.{sym, ◌∙◌}
use Rattle.command_compose.specs.Compose.{record_drafted}
use Rattle.command_compose.proofs.record_drafted.Goals as goal

pub returns-then-is_record_line : goal.returns-then-is_record_line
unfolding record_drafted
returns-then-is_record_line c =
    rw (sym c.is_record_line.ensures ∙ c.if-is_record_line.true) c.with_record.ensures

pub returns : goal.returns
unfolding record_drafted
returns c =
    rw (sym c.is_record_line.ensures ∙ c.if-is_record_line.false) c.with_unread.ensures
