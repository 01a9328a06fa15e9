-- `raised` is right because the part is always the divisor doubled some times, and it is doubled once more exactly while twice the part is at most the dividend.
use Prim.Native.Nat.{◌≤◌, ◌-◌}
use Rattle.quotients.specs.Turns.{Doubled}
use Rattle.quotients.proofs.raised.Given as goal

abbrev pub invariant-loop-part : goal.invariant-loop-part
invariant-loop-part l =
    Doubled l.divisor l.part × (l.part ≤ l.dividend)

abbrev pub decreases-loop-part : goal.decreases-loop-part
decreases-loop-part l =
    l.dividend - l.part
