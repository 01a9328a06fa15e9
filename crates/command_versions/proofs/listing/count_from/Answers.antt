-- `count_from` is right because the numbers run on from the oldest to the newest.
use mathlib.Core.Path.{refl}
use borrow.Author.Tests.{eq-eqb, ne_eqb}
use Rattle.command_versions.specs.VersionsText.{count_from}
use Rattle.command_versions.proofs.listing.count_from.Goals as goal

pub returns-then-oldest-eq0 : goal.returns-then-oldest-eq0
unfolding count_from
returns-then-oldest-eq0 c =
    rw (eq-eqb _ _ c.if-oldest-eq0.true) refl

pub returns : goal.returns
unfolding count_from
returns c =
    rw (ne_eqb _ _ c.if-oldest-eq0.false) refl
