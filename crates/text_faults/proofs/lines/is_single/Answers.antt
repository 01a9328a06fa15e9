-- `is_single` is right because its body is the definition.
use mathlib.Core.Path.{refl}
use Rattle.text_faults.specs.Lines.{is_single}
use Rattle.text_faults.proofs.lines.is_single.Goals as goal

pub returns : goal.returns
unfolding is_single
returns c =
    refl
