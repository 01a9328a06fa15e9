-- `line_at` is right because its tests are the definition's.
use Prim.Native.Nat.{◌≤◌, ◌<◌}
use mathlib.Core.Path.{refl}
use native.Mathlib.Omega.{arith}
use borrow.Author.Tests.{eq-eqb, ne_eqb, le-leb, lt-leb, lt-ltb, le-ltb}
use Rattle.command_tune.specs.Lines.{line_count, line_at}
use Rattle.command_tune.proofs.line_at.Goals as goal

pub returns-then-line_count-i : goal.returns-then-line_count-i
unfolding line_at
returns-then-line_count-i c =
    let past : line_count c.args.k ≤ c.args.i = omega (arith, c.line_count.ensures) in
    rw (le-leb _ _ past) refl

pub returns-then-k-ne-ACCEPTED : goal.returns-then-k-ne-ACCEPTED
unfolding line_at
returns-then-k-ne-ACCEPTED c =
    let there : c.args.i < line_count c.args.k = omega (arith, c.line_count.ensures) in
    rw (lt-leb _ _ there, ne_eqb _ _ c.if-k-ne-ACCEPTED.true, c.one.ensures, c.from.ensures) refl

pub returns-then-i-lt3 : goal.returns-then-i-lt3
unfolding line_at
returns-then-i-lt3 c =
    let there : c.args.i < line_count c.args.k = omega (arith, c.line_count.ensures) in
    let few : c.args.i < 3 = c.if-i-lt3.true in
    rw (lt-leb _ _ there, eq-eqb _ _ c.if-k-ne-ACCEPTED.false, lt-ltb _ _ few, c.first.ensures) refl

pub returns : goal.returns
unfolding line_at
returns c =
    let there : c.args.i < line_count c.args.k = omega (arith, c.line_count.ensures) in
    rw (lt-leb _ _ there, eq-eqb _ _ c.if-k-ne-ACCEPTED.false, le-ltb _ _ c.if-i-lt3.false, c.found.ensures) refl
