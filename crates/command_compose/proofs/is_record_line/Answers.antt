-- `is_record_line` is right because it asks for a visit's line and for a mark's.
use mathlib.Core.Path.{refl}
use Rattle.command_compose.proofs.is_record_line.Goals as goal

pub returns : goal.returns
returns c =
    rw (c.is_visit_line.ensures, c.is_mark_line.ensures) refl
