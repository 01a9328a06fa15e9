-- `is_read_lem` is right because its body is the definition.
use mathlib.Core.Path.{refl}
use Rattle.text_faults.specs.Lines.{is_read}
use Rattle.text_faults.proofs.lines.is_read.Goals as goal

pub returns : goal.returns
unfolding is_read
returns c =
    rw (c.begins.ensures, c.least_of-least.ensures) refl
