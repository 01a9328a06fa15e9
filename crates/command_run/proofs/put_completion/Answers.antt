-- `put_completion` is right because its words are put one behind another.
use mathlib.Core.Path.{ap}
use mathlib.Core.List.{◌∷◌}
use lib.IntN.{ℤ}
use mir.Syntax.{w64}
use mir.ValLaws.{to_z-of_z}
use native.Mathlib.Omega.{arith}
use Rattle.text.specs.Text.{line_on, space}
use Rattle.command_run.specs.RunText.{completion, signed_of}
use Rattle.command_run.proofs.RunLaws.{completion_some}
use Rattle.text.proofs.TextLaws.{field_short, line_on_two}
use Rattle.text.proofs.PageLaws.{puts, puts_then, puts_as, end_then}
use Rattle.command_run.proofs.put_completion.Goals as goal

pub returns-then-completed-eq0 : goal.returns-then-completed-eq0
unfolding completion line_on
returns-then-completed-eq0 c =
    let room = c.requires in
    let one = puts c.put_short.ensures (omega (arith, room)) (omega arith) in
    puts_as (end_then one c.put_end.ensures (omega (arith, room))) (rw c.if-completed-eq0.true) (omega arith)

pub returns : goal.returns
returns c =
    let room = c.requires in
    let stored = to_z-of_z w64 c.args.margin c.ranges.margin in
    let margin = puts_as {more = 40} c.put_margin.ensures (ap (λ (z : ℤ). space ∷ signed_of z) stored) (omega arith) in
    let one = puts c.put_field.ensures (omega (arith, room)) (field_short _) in
    let two = puts_then one margin (omega (arith, room)) in
    rw (completion_some _ _ _ c.if-completed-eq0.false, line_on_two) (end_then two c.put_end-2.ensures (omega (arith, room)))
