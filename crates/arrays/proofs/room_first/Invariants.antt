-- `room_first` is right because its sum is that of the places passed.
use Rattle.std.proofs.Common.{◌≡◌, ◌-◌, ◌*◌, ◌^◌, ◌≤◌}
use Rattle.units.specs.Places.{at, sum_below}
use Rattle.arrays.proofs.room_first.Given as goal

abbrev pub invariant-loop-i : goal.invariant-loop-i
invariant-loop-i l =
    (l.sum ≡ sum_below l.i (λ j. at l.xs j - at l.taken j)) × (l.sum ≤ l.i * 2 ^ 32)
