-- `mark_at` is right because it hands out the two numbers where there are 5 bytes, and else the blank mark.
use Prim.Native.Nat.{◌+◌, ◌≤◌, ◌<◌}
use mathlib.Core.Path.{refl, ◌∙◌}
use native.Mathlib.Omega.{arith}
use lib.ListN.{length}
use borrow.Author.Tests.{le-leb, lt-leb}
use Rattle.log_records.specs.Mark.{mark_or_blank}
use Rattle.sheets.proofs.records.mark_at.Goals as goal

pub returns-then-saturating_sub-lt-MARK_LENGTH : goal.returns-then-saturating_sub-lt-MARK_LENGTH
unfolding mark_or_blank
returns-then-saturating_sub-lt-MARK_LENGTH c =
    let args = c.args in
    let left = c.saturating_sub.ensures in
    let short : length args.bs.now < args.at + 5 = omega arith in
    c.blank_mark.ensures ∙ rw (lt-leb _ _ short) refl

pub returns : goal.returns
unfolding mark_or_blank
returns c =
    let args = c.args in
    let left = c.saturating_sub.ensures in
    let whole : args.at + 5 ≤ length args.bs.now = omega arith in
    rw (le-leb _ _ whole, c.from-station.ensures, c.from-mark.ensures) refl
