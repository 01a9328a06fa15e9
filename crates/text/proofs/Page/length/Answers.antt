-- `length` is right because the place behind what was put is how many bytes were put.
use mathlib.Core.Path.{refl}
use Rattle.text.proofs.Page.length.Goals as goal

pub returns : goal.returns
returns c =
    refl
