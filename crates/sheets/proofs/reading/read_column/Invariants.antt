-- `read_column` is right because the places passed hold the numbers of the fields passed.
use Prim.Native.Nat.{◌+◌, ◌*◌}
use mathlib.Core.Path.{◌≡◌}
use Rattle.units.specs.Places.{fill}
use Rattle.fields.specs.Bytes.{number_at}
use Rattle.sheets.proofs.reading.read_column.Given as goal

abbrev pub invariant-loop-i : goal.invariant-loop-i
invariant-loop-i l =
    l.number-items ≡ fill l.i (λ k. number_at l.bs (l.from + l.step * k)) l.initial.number-items
