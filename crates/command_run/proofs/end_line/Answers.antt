-- `end_line` is right because the line's call gives the ring and the answer, and the next line begins with nothing read.
use mathlib.Core.Path.{refl}
use Rattle.command_run.proofs.end_line.Goals as goal

pub returns : goal.returns
returns c =
    rw (c.next_line.ensures, c.fresh.ensures, c.call_line-called.ensures) refl
