-- `on_next_line` is right because its body is the definition.
use mathlib.Core.Path.{refl}
use Rattle.command_hopper.proofs.wagon_lines.on_next_line.Goals as goal

pub returns : goal.returns
returns c =
    rw (c.fresh.ensures, c.next_line.ensures) refl
