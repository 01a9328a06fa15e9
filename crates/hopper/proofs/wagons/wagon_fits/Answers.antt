-- `wagon_fits` is right because its body is the definition, test by test.
use mathlib.Core.Path.{refl}
use Rattle.hopper.specs.Wagons.{wagon_fits}
use Rattle.hopper.proofs.wagons.wagon_fits.Goals as goal

pub returns : goal.returns
unfolding wagon_fits
returns c =
    refl
