-- `number_from` is right because it tests for the four bytes, and then reads them.
use Prim.Native.Nat.{◌≤◌, ◌<◌}
use mathlib.Core.Path.{refl}
use native.Mathlib.Omega.{arith}
use borrow.Author.Tests.{lt-leb, le-leb}
use Rattle.fields.specs.Fields.{left}
use Rattle.sheets.specs.Reading.{number_or_zero}
use Rattle.sheets.proofs.records.number_from.Goals as goal

pub returns-then-saturating_sub-lt4 : goal.returns-then-saturating_sub-lt4
unfolding number_or_zero
returns-then-saturating_sub-lt4 c =
    let args = c.args in
    let some = c.saturating_sub.ensures in
    let short : left args.bs.now args.at < 4 = omega arith in
    rw (lt-leb 4 _ short) refl

pub returns : goal.returns
unfolding number_or_zero
returns c =
    let args = c.args in
    let some = c.saturating_sub.ensures in
    let enough : 4 ≤ left args.bs.now args.at = omega arith in
    rw (le-leb 4 _ enough) c.number_at.ensures
