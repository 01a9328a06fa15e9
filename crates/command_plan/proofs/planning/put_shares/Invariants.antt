-- `put_shares` is right because the lines of the stations before this one are put.
use Prim.Native.Nat.{◌*◌}
use Rattle.units.specs.Places.{at as place_at}
use Rattle.fields.specs.Rows.{rows}
use Rattle.text.specs.Pages.{Puts}
use Rattle.command_plan.specs.PlanText.{share_line}
use Rattle.command_plan.proofs.planning.put_shares.Given as goal

abbrev pub invariant-loop-i : goal.invariant-loop-i
invariant-loop-i l =
    Puts (42 * l.i) l.initial.page (rows l.i (λ k. share_line k (place_at l.fn.s k))) l.page
