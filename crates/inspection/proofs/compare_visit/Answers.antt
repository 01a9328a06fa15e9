-- `compare_visit` is right because each arm is the definition's own.
use Rattle.std.proofs.Common.{sym}
use Rattle.inspection.proofs.FindingLaws.{station_compared, start_compared, limit_compared, synchronous_compared, asynchronous_compared}
use Rattle.inspection.proofs.compare_visit.Goals as goal

pub returns-in-1 : goal.returns-in-1
returns-in-1 c =
    sym (station_compared _ _ _ c.in-1.is)

pub returns-in-2 : goal.returns-in-2
returns-in-2 c =
    rw c.between-ticks.ensures (sym (start_compared _ _ _ c.in-2.is))

pub returns-in-3 : goal.returns-in-3
returns-in-3 c =
    sym (limit_compared _ _ _ c.in-3.is)

pub returns-in-4 : goal.returns-in-4
returns-in-4 c =
    sym (synchronous_compared _ _ _ c.in-4.is)

pub returns-in_default : goal.returns-in_default
returns-in_default c =
    let other = c.in_default.in_default-own.rest in
    sym (asynchronous_compared _ _ _ other.0.0.0.1 other.0.0.1 other.0.1 other.1)
