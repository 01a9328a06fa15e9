-- `goes_out` is right because it asks for a whole text and for an accepted plan behind a record.
use mathlib.Core.Path.{refl}
use Rattle.command_compose.proofs.goes_out.Goals as goal

pub returns : goal.returns
returns c =
    rw c.is_whole.ensures refl
