-- `arrival_allowed` is right because its body is the definition, test by test.
use mathlib.Core.Path.{refl}
use Rattle.rings.specs.HandingIn.{arrival_allowed}
use Rattle.rings.proofs.messages.arrival_allowed.Goals as goal

pub returns : goal.returns
unfolding arrival_allowed
returns c =
    rw (c.later_than_start-later.ensures, c.from.ensures) refl
