-- `blank_visit` is right because its body is the definition.
use mathlib.Core.Path.{refl}
use Rattle.log_records.proofs.blank_visit.Goals as goal

pub returns : goal.returns
returns c =
    refl
