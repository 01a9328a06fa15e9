-- `unless_marked` is right because its branch is the definition's own.
use Rattle.std.proofs.Common.{refl, le-ltb, lt-ltb}
use Rattle.inspection.specs.Rules.{unless_marked}
use Rattle.inspection.proofs.rules.unless_marked.Goals as goal

pub returns-then-mark-gt0 : goal.returns-then-mark-gt0
unfolding unless_marked
returns-then-mark-gt0 c =
    rw (lt-ltb _ _ c.if-mark-gt0.true) refl

pub returns-else-mark-gt0 : goal.returns-else-mark-gt0
unfolding unless_marked
returns-else-mark-gt0 c =
    rw (le-ltb _ _ c.if-mark-gt0.false) refl
