-- `mark_stands` is right because it tests for the 5 bytes, and then for the tag and the length.
use Rattle.std.proofs.Common.{◌+◌, ◌<◌, ◌≤◌, length, refl, ◌∙◌, arith, le-leb}
use borrow.Author.Tests.{lt-leb}
use Rattle.log_records.specs.Mark.{mark_stands}
use Rattle.logs.proofs.reading.mark_stands.Goals as goal

pub returns-then-saturating_sub-lt-MARK_LENGTH : goal.returns-then-saturating_sub-lt-MARK_LENGTH
unfolding mark_stands
returns-then-saturating_sub-lt-MARK_LENGTH c =
    let args = c.args in
    let short : length args.bs.now < args.at + 5 = omega arith in
    rw (lt-leb _ _ short) refl

pub returns : goal.returns
unfolding mark_stands
returns c =
    let args = c.args in
    let whole : args.at + 5 ≤ length args.bs.now = omega arith in
    c.begins.ensures ∙ rw (le-leb _ _ whole) refl
