-- `with_station` is right because it asks for its place, and then adds it.
use mathlib.Core.Path.{◌≡◌}
use mathlib.Core.Bool.{true, false, ◌&&◌, ◌||◌}
use borrow.Author.Tests.{ltb-true}
use lib.Dec.{leb, ltb, eqb}
use Prim.Native.Nat.{◌<◌}
use Rattle.units.proofs.JudgingLaws.{and-true}
use Rattle.command_compose.specs.Compose.{with_station}
use Rattle.command_compose.proofs.with_station.Goals as goal

pub returns-then-not-placed : goal.returns-then-not-placed
unfolding with_station
returns-then-not-placed c =
    let out_of_place : let args = c.args in
    (leb 1 args.d.head && (ltb args.d.set.n 128 && (eqb args.d.kind 0 || eqb args.d.kind args.kind))) ≡ false = c.if-not-placed.true in
    rw out_of_place c.misplaced_in.ensures

pub set_and-set-requires : goal.set_and-set-requires
set_and-set-requires c =
    let placed : let args = c.args in
    (leb 1 args.d.head && (ltb args.d.set.n 128 && (eqb args.d.kind 0 || eqb args.d.kind args.kind))) ≡ true = c.if-not-placed.false in
    let few : c.args.d.set.n < 128 = let args = c.args in
    ltb-true _ _ (and-true (ltb args.d.set.n 128) _ (and-true (leb 1 args.d.head) _ (placed)).1).0 in
    (few, c.requires)

pub alloc_and-alloc-requires : goal.alloc_and-alloc-requires
alloc_and-alloc-requires c =
    let placed : let args = c.args in
    (leb 1 args.d.head && (ltb args.d.set.n 128 && (eqb args.d.kind 0 || eqb args.d.kind args.kind))) ≡ true = c.if-not-placed.false in
    let few : c.args.d.set.n < 128 = let args = c.args in
    ltb-true _ _ (and-true (ltb args.d.set.n 128) _ (and-true (leb 1 args.d.head) _ (placed)).1).0 in
    (few, c.requires)

pub returns : goal.returns
unfolding with_station
returns c =
    let placed : let args = c.args in
    (leb 1 args.d.head && (ltb args.d.set.n 128 && (eqb args.d.kind 0 || eqb args.d.kind args.kind))) ≡ true = c.if-not-placed.false in
    rw (placed, c.set_and-set.ensures, c.alloc_and-alloc.ensures)
