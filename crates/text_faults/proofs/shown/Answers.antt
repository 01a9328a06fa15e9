-- `shown` is right because its body is the definition.
use mathlib.Core.Path.{refl}
use Rattle.text_faults.specs.Words.{shown}
use Rattle.text_faults.proofs.shown.Goals as goal

pub returns-then-plain : goal.returns-then-plain
unfolding shown
returns-then-plain c =
    rw c.if-plain.true refl

pub returns : goal.returns
unfolding shown
returns c =
    rw c.if-plain.false refl
