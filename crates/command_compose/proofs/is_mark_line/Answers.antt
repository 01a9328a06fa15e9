-- `is_mark_line` is right because it asks for the word and two numbers, and for both to be of one byte.
use mathlib.Core.Path.{refl}
use Rattle.command_compose.proofs.is_mark_line.Goals as goal

pub returns : goal.returns
returns c =
    rw c.is_line.ensures refl
