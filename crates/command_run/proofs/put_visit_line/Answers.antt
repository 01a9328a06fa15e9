-- `put_visit_line` is right because its words are put one behind another.
use mathlib.Core.Path.{sym, ap}
use lib.IntN.{ℤ}
use mir.Syntax.{w64}
use mir.ValLaws.{to_z-of_z}
use Rattle.text.specs.Text.{line_on}
use native.Mathlib.Omega.{arith}
use Rattle.command_run.specs.RunText.{completion, visit_line}
use Rattle.command_run.proofs.RunLaws.{visit_words}
use Rattle.text.proofs.PageLaws.{puts_then, puts_as}
use Rattle.command_run.proofs.put_visit_line.Goals as goal

pub returns : goal.returns
unfolding visit_line
returns c =
    let room = c.requires in
    let two = puts_then c.put_arrival.ensures c.put_amounts.ensures (omega (arith, room)) in
    let told = c.struct_told-1.given in
    let v = c.args.v in
    let stored = to_z-of_z w64 v.margin (record { sfits = told.1.1.1.1.1.1.1.0.1 }) in
    let ended = puts_as {more = 62} c.put_completion.ensures (ap (λ (z : ℤ). line_on (completion v.completed v.finish.0 z)) stored) (omega arith) in
    puts_as (puts_then two ended (omega (arith, room))) (sym (visit_words _ _ _ _ _ _ _ _)) (omega arith)
