-- `with_ttrt` is right because TTRT is taken once.
use mathlib.Core.Path.{◌≡◌, refl}
use mathlib.Core.Bool.{true, false}
use lib.Dec.{eqb}
use borrow.Author.Tests.{eq-eqb, ne_eqb}
use Rattle.command_compose.specs.Compose.{with_ttrt}
use Rattle.command_compose.proofs.with_ttrt.Goals as goal

pub returns-then-d-ne0 : goal.returns-then-d-ne0
unfolding with_ttrt
returns-then-d-ne0 c =
    let taken : eqb c.args.d.head 0 ≡ false = ne_eqb _ _ c.if-d-ne0.true in
    rw taken c.misplaced_in.ensures

pub returns : goal.returns
unfolding with_ttrt
returns c =
    let first : eqb c.args.d.head 0 ≡ true = eq-eqb _ _ c.if-d-ne0.false in
    rw (first, ← c.head_of-head.ensures) refl
