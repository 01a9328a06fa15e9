-- `with_record` is right because it asks for the stations' kind, as the definition does.
use mathlib.Core.Path.{◌≡◌, refl}
use mathlib.Core.Bool.{true, false}
use lib.Dec.{eqb, ltb}
use borrow.Author.Tests.{eq-eqb, ne_eqb, lt-ltb, le-ltb}
use Rattle.command_compose.specs.Compose.{with_record}
use Rattle.command_compose.proofs.with_record.Goals as goal

pub returns-then-d-eq2 : goal.returns-then-d-eq2
unfolding with_record
returns-then-d-eq2 c =
    let two : eqb c.args.d.kind 2 ≡ true = eq-eqb _ 2 c.if-d-eq2.true in
    rw (two, ← c.logged_kind-kind.ensures) refl

pub returns-then-d-lt3 : goal.returns-then-d-lt3
unfolding with_record
returns-then-d-lt3 c =
    let other : eqb c.args.d.kind 2 ≡ false = ne_eqb _ 2 c.if-d-eq2.false in
    let low : ltb c.args.d.kind 3 ≡ true = lt-ltb _ 3 c.if-d-lt3.true in
    rw (other, low) c.misplaced_in.ensures

pub returns : goal.returns
unfolding with_record
returns c =
    let other : eqb c.args.d.kind 2 ≡ false = ne_eqb _ 2 c.if-d-eq2.false in
    let high : ltb c.args.d.kind 3 ≡ false = le-ltb _ 3 c.if-d-lt3.false in
    rw (other, high) refl
