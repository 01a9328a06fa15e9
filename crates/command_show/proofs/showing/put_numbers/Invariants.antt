-- `put_numbers` is right because after k turns the lines of the first k numbers are put.
use Prim.Native.Nat.{◌*◌}
use Rattle.fields.specs.Rows.{rows}
use Rattle.text.specs.Pages.{Puts}
use Rattle.sheet_text_rules.specs.ShowText.{number_line}
use Rattle.command_show.proofs.showing.put_numbers.Given as goal

abbrev pub invariant-loop-k : goal.invariant-loop-k
invariant-loop-k l =
    Puts (42 * l.k) l.initial.page (rows l.k (number_line l.h)) l.page
