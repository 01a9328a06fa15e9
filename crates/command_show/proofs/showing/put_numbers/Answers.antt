-- `put_numbers` is right because after k turns the lines of the first k numbers are put.
use Prim.Native.Nat.{◌+◌}
use mathlib.Core.Path.{◌≡◌, refl, ap}
use native.Mathlib.Omega.{arith}
use Rattle.fields.proofs.RowLaws.{rows_none, rows_step}
use Rattle.fields.specs.Header.{further_count}
use Rattle.text.proofs.PageLaws.{puts_none, puts_then, puts_as}
use Rattle.sheet_text_rules.specs.ShowText.{further_line}
use Rattle.command_show.proofs.showing.put_numbers.Goals as goal

pub loop-k-init : goal.loop-k-init
loop-k-init c =
    rw rows_none (puts_none _)

pub loop-k-preserved : goal.loop-k-preserved
loop-k-preserved c =
    let named = puts_as {more = 42} c.put_further.ensures (ap (further_line (4 + c.loop-k.k)) c.head_number-number.ensures) (omega arith) in
    rw rows_step (puts_as (puts_then c.loop-k.invariant named (omega arith)) refl (omega arith))

pub returns : goal.returns
returns c =
    let all : c.loop-k.k ≡ further_count = omega arith in
    puts_as c.loop-k.invariant (rw all) (omega arith)
