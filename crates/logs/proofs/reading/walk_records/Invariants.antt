-- `walk_records` is right because at each turn the walk from the place on is the rest of the definition's walk, and it stops where the definition stops.
use Rattle.std.proofs.Common.{◌≡◌, ℕ, ◌+◌, ◌<◌, ◌≤◌}
use Rattle.fields.specs.Fields.{left}
use Rattle.logs.specs.Records.{record_size}
use Rattle.logs.specs.Walked.{walk_from, walked}
use Rattle.logs.proofs.reading.walk_records.Given as goal

abbrev pub invariant-loop-size : goal.invariant-loop-size
invariant-loop-size l =
    (l.first + l.records ≤ l.at) × (l.size ≡ record_size l.bs l.at)
    × ((k : ℕ) × ((left l.bs l.at < k) × (walk_from k l.bs l.records l.at ≡ walked l.bs l.first)))

abbrev pub decreases-loop-size : goal.decreases-loop-size
decreases-loop-size l =
    left l.bs l.at
