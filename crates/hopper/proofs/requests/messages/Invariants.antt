-- `messages` is right because the places passed hold the longest messages of their wagons, and every other is still 0.
use mathlib.Core.Path.{◌≡◌}
use Rattle.units.specs.Places.{fill, zeros}
use Rattle.hopper.specs.Requests.{longest_at}
use Rattle.hopper.proofs.requests.messages.Given as goal

abbrev pub invariant-loop-i : goal.invariant-loop-i
invariant-loop-i l =
    l.c ≡ fill l.i (longest_at l.list) zeros
