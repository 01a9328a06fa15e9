-- `begin_refit` is right because its body is the definition.
use mathlib.Core.Path.{refl}
use Rattle.command_hopper.proofs.begin_refit.Goals as goal

pub returns : goal.returns
returns c =
    rw c.fresh.ensures refl
