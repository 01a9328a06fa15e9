-- `is_visit_line` is right because it asks for the word and five numbers, and for a station of one byte.
use mathlib.Core.Path.{refl}
use Rattle.command_compose.proofs.is_visit_line.Goals as goal

pub returns : goal.returns
returns c =
    rw c.is_line.ensures refl
