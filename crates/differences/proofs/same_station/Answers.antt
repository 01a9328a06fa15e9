-- `same_station` is right because it compares the station's five numbers.
use mathlib.Core.Path.{sym}
use Rattle.differences.proofs.NoneLaws.{none_station}
use Rattle.differences.proofs.same_station.Goals as goal

pub returns : goal.returns
returns c =
    let given = c.args in
    sym (none_station given.t given.a given.u given.b given.i)
