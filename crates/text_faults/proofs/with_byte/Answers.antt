-- `with_byte` is right because a byte more has its place below 64.
use mathlib.Core.Path.{refl}
use borrow.Author.Tests.{lt-leb, le-leb}
use Rattle.text_faults.specs.Words.{with_byte}
use Rattle.text_faults.proofs.with_byte.Goals as goal

pub returns-then-length-ge-WORD_SIZE : goal.returns-then-length-ge-WORD_SIZE
unfolding with_byte
returns-then-length-ge-WORD_SIZE c =
    rw (le-leb _ _ c.if-length-ge-WORD_SIZE.true) refl

pub returns : goal.returns
unfolding with_byte
returns c =
    rw (lt-leb _ _ c.if-length-ge-WORD_SIZE.false, c.shown.ensures) refl
