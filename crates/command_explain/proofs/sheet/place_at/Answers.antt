-- `place_at` is right because its body is the definition; where three bytes are left, the place and those that are passed over lie inside the bytes.
use mathlib.Core.Path.{refl}
use borrow.Author.Tests.{lt-leb, le-leb}
use Rattle.command_explain.proofs.SheetLaws.{short_is}
use Rattle.command_explain.specs.Sheet.{place_at}
use Rattle.command_explain.proofs.sheet.place_at.Goals as goal

pub returns-then-there-lt3 : goal.returns-then-there-lt3
unfolding place_at
returns-then-there-lt3 c =
    rw (lt-leb 3 _ (rw c.left_from-there.ensures at c.if-there-lt3.true), c.left_from-there.ensures) refl

pub returns : goal.returns
unfolding place_at
returns c =
    let args = c.args in
    let there = c.left_from-there.ensures in
    rw (c.from.ensures, c.from-low.ensures, c.from-high.ensures, there, le-leb 3 _ (rw there at c.if-there-lt3.false), short_is args.bs.now args.at) refl
