-- `mark_of` is right because what remains of a number divided by 256 fits a byte.
use mathlib.Core.Path.{refl}
use Rattle.command_log.proofs.mark_of.Goals as goal

pub returns : goal.returns
returns c =
    refl
