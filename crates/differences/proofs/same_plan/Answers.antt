-- `same_plan` is right because it compares the header, the number of the stations, and the stations that an array has.
use mathlib.Core.Path.{◌≡◌, refl, sym}
use native.Mathlib.Omega.{arith}
use borrow.Author.Tests.{le-leb, lt-leb}
use Rattle.units.specs.Numbers.{most_stations}
use Rattle.differences.proofs.NoneLaws.{none_plan}
use Rattle.differences.proofs.same_plan.Goals as goal

pub returns-then-t-gt-MOST_STATIONS : goal.returns-then-t-gt-MOST_STATIONS
returns-then-t-gt-MOST_STATIONS c =
    rw (lt-leb _ most_stations c.if-t-gt-MOST_STATIONS.true) refl

pub returns : goal.returns
returns c =
    let few = c.if-t-gt-MOST_STATIONS.false in
    let given = c.args in
    let n : c.places-n.result ≡ given.t.n = omega (arith, few, c.places-n.ensures) in
    rw (c.same_header-header.ensures, c.same_stations-stations.ensures, n, le-leb _ most_stations few) (sym (none_plan given.t given.a given.u given.b))
