-- An entry of a log as a host is told of it: an exported function returns no enum, so a number says the kind, and both kinds have their numbers.
use Rattle.std.specs.Prelude.{cond, eqb}
use Rattle.log_records.specs.Visit.{blank_visit}
use Rattle.log_records.specs.Mark.{blank_mark}
use Rattle.log_records.specs.declared.NextEntry.{NextEntry}
use Rattle.inspection.specs.Kept.{told_of}
use Rattle.inspection.specs.declared.LogEntry.{LogEntry}

-- where no entry stands: kind 0, and every number 0
abbrev pub no_entry : LogEntry
no_entry = record { kind = 0; visit = blank_visit; mark = blank_mark; next = 0 }

-- what was handed out, as it is told; no place behind an entry is 0
unfoldable pub told : NextEntry → LogEntry
told handed = cond (eqb handed.next 0) no_entry (told_of handed.entry handed.next)
