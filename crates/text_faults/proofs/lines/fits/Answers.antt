-- `fits` is right because its body is the definition.
use mathlib.Core.Path.{refl}
use Rattle.text_faults.specs.Lines.{fits}
use Rattle.text_faults.proofs.lines.fits.Goals as goal

pub returns : goal.returns
unfolding fits
returns c =
    rw (c.limit_of.ensures, c.limit_of-2.ensures) refl
