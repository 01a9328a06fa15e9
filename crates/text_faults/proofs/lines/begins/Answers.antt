-- `begins` is right because its body is the definition.
use mathlib.Core.Path.{refl}
use Rattle.text_faults.specs.Lines.{begins}
use Rattle.text_faults.proofs.lines.begins.Goals as goal

pub returns : goal.returns
unfolding begins
returns c =
    rw (c.fits.ensures, c.most_of-most.ensures) refl
