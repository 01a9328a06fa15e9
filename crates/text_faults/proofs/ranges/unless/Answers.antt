-- `unless` is right because its body is the definition.
use mathlib.Core.Path.{refl}
use Rattle.text_faults.specs.Ranges.{unless}
use Rattle.text_faults.proofs.ranges.unless.Goals as goal

pub returns-then-holds : goal.returns-then-holds
unfolding unless
returns-then-holds c =
    rw c.if-holds.true refl

pub returns : goal.returns
unfolding unless
returns c =
    rw c.if-holds.false refl
