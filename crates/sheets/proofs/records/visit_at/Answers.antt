-- `visit_at` is right because it hands out the five numbers where there are 20 bytes, and else the blank visit.
use Prim.Native.Nat.{◌+◌, ◌≤◌, ◌<◌}
use mathlib.Core.Path.{refl, ◌∙◌}
use native.Mathlib.Omega.{arith}
use lib.ListN.{length}
use borrow.Author.Tests.{le-leb, lt-leb}
use Rattle.log_records.specs.Visit.{visit_or_blank}
use Rattle.sheets.proofs.records.visit_at.Goals as goal

pub returns-then-saturating_sub-lt-VISIT_LENGTH : goal.returns-then-saturating_sub-lt-VISIT_LENGTH
unfolding visit_or_blank
returns-then-saturating_sub-lt-VISIT_LENGTH c =
    let args = c.args in
    let left = c.saturating_sub.ensures in
    let short : length args.bs.now < args.at + 20 = omega arith in
    c.blank_visit.ensures ∙ rw (lt-leb _ _ short) refl

pub returns : goal.returns
unfolding visit_or_blank
returns c =
    let args = c.args in
    let left = c.saturating_sub.ensures in
    let whole : args.at + 20 ≤ length args.bs.now = omega arith in
    c.read_visit.ensures ∙ rw (le-leb _ _ whole) refl
