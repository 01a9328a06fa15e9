-- `with_further` is right because it asks for the line's place, and then puts what the line gives into the header.
use mathlib.Core.Path.{◌≡◌}
use mathlib.Core.Bool.{true, false, ◌&&◌}
use lib.Dec.{leb, ltb, eqb}
use Rattle.command_compose.specs.Compose.{with_further}
use Rattle.command_compose.proofs.with_further.Goals as goal

pub returns-then-not-placed : goal.returns-then-not-placed
unfolding with_further
returns-then-not-placed c =
    let out_of_place : let args = c.args in
    (leb 1 args.d.head && (ltb args.d.head args.tag && eqb args.d.set.n 0)) ≡ false = c.if-not-placed.true in
    rw out_of_place c.misplaced_in.ensures

pub returns : goal.returns
unfolding with_further
returns c =
    let placed : let args = c.args in
    (leb 1 args.d.head && (ltb args.d.head args.tag && eqb args.d.set.n 0)) ≡ true = c.if-not-placed.false in
    rw (placed, ← c.header_number-given.ensures, ← c.with_head_number-head.ensures)
