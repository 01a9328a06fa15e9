-- `version_fits` is right because it goes by the tests of the definition.
use mathlib.Core.Path.{sym}
use native.Mathlib.Omega.{arith}
use Rattle.versions.proofs.AreaLaws.{fits_short, fits_tests}
use Rattle.versions.proofs.area.version_fits.Goals as goal

pub returns-then-left-lt7 : goal.returns-then-left-lt7
returns-then-left-lt7 c =
    let args = c.args in
    let some = c.saturating_sub-left.ensures in
    sym (fits_short args.area.now args.at (omega arith))

pub returns : goal.returns
returns c =
    let args = c.args in
    let some = c.saturating_sub-left.ensures in
    rw (c.saturating_sub-left.ensures, c.size_at-size.ensures.is) (sym (fits_tests args.area.now args.at (omega arith)))
