-- `next_token` is right because its branch is the definition's own.
use Rattle.rings.specs.State.{following}
use borrow.Author.Tests.{lt-ltb, le-ltb}
use Rattle.rings.proofs.steps.next_token.Goals as goal

pub returns-then-next-n : goal.returns-then-next-n
unfolding following
returns-then-next-n c =
    rw (lt-ltb _ _ c.if-next-n.true)

pub returns-else-next-n : goal.returns-else-next-n
unfolding following
returns-else-next-n c =
    rw (le-ltb _ _ c.if-next-n.false)
