-- `scan_sheet` is right because at each turn the walk from the cursor on is the rest of the definition's walk, and it stops where the definition stops.
use Prim.Native.Nat.{ℕ, ◌+◌, ◌≤◌, ◌<◌}
use mathlib.Core.Path.{◌≡◌}
use lib.ListN.{length}
use Rattle.fields.specs.Fields.{left}
use Rattle.field_reader.specs.Cursor.{step_of}
use Rattle.field_reader.specs.Scanned.{scan_from, scanned}
use Rattle.field_reader.proofs.scan_sheet.Given as goal

abbrev pub invariant-loop-at : goal.invariant-loop-at
invariant-loop-at l =
    (l.step ≡ step_of l.sheet l.at l.passed) × (l.passed.stations + l.passed.allocations ≤ l.at) × (l.at ≤ length l.sheet)
    × ((k : ℕ) × ((left l.sheet l.at < k) × (scan_from k l.sheet l.passed l.at ≡ scanned l.plan l.sheet)))

abbrev pub decreases-loop-at : goal.decreases-loop-at
decreases-loop-at l =
    left l.sheet l.at
