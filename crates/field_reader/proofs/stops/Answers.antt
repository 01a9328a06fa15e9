-- `stops` is right because it joins the definition's two tests.
use mathlib.Core.Path.{refl}
use Rattle.field_reader.specs.Scanned.{stops_at}
use Rattle.field_reader.proofs.stops.Goals as goal

pub returns : goal.returns
unfolding stops_at
returns c =
    refl
