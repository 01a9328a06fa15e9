-- `inspect_from` is right because after each byte what is left of the inspection is the same.
use Prim.Native.Nat.{◌≤◌}
use Rattle.inspection_stream.proofs.TurnLaws.{Going}
use Rattle.inspection_stream.proofs.inspect_from.Given as goal

abbrev pub invariant-loop-i : goal.invariant-loop-i
invariant-loop-i l =
    (l.from ≤ l.i) × Going l.set l.alloc l.bytes l.initial.gathered l.initial.looked l.from l.gathered l.looked l.i
