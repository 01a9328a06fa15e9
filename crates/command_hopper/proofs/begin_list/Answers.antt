-- `begin_list` is right because its body is the definition.
use mathlib.Core.Path.{refl}
use Rattle.command_hopper.proofs.begin_list.Goals as goal

pub returns : goal.returns
returns c =
    rw (c.blank_list.ensures, c.fresh.ensures) refl
