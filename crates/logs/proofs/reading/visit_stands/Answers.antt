-- `visit_stands` is right because it tests for the 20 bytes, and then for the tag and the length.
use Rattle.std.proofs.Common.{◌+◌, ◌<◌, ◌≤◌, length, refl, ◌∙◌, arith, le-leb}
use borrow.Author.Tests.{lt-leb}
use Rattle.log_records.specs.Visit.{visit_stands}
use Rattle.logs.proofs.reading.visit_stands.Goals as goal

pub returns-then-saturating_sub-lt-VISIT_LENGTH : goal.returns-then-saturating_sub-lt-VISIT_LENGTH
unfolding visit_stands
returns-then-saturating_sub-lt-VISIT_LENGTH c =
    let args = c.args in
    let short : length args.bs.now < args.at + 20 = omega arith in
    rw (lt-leb _ _ short) refl

pub returns : goal.returns
unfolding visit_stands
returns c =
    let args = c.args in
    let whole : args.at + 20 ≤ length args.bs.now = omega arith in
    c.begins.ensures ∙ rw (le-leb _ _ whole) refl
