-- `begin` is right because its body is the definition.
use mathlib.Core.Path.{refl}
use Rattle.text_faults.proofs.begin.Goals as goal

pub returns : goal.returns
returns c =
    rw (c.nothing_found.ensures, c.fresh.ensures) refl
