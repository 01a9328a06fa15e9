-- `is_byte` is right because its body is the definition.
use mathlib.Core.Path.{refl}
use Rattle.text_faults.specs.Lines.{is_byte}
use Rattle.text_faults.proofs.lines.is_byte.Goals as goal

pub returns : goal.returns
unfolding is_byte
returns c =
    refl
