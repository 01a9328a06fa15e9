-- `put_refused` is right because each side has its line.
use mathlib.Core.List.{[], ◌∷◌}
use native.Mathlib.Omega.{arith}
use Rattle.text.proofs.PageLaws.{line_put, puts_as}
use Rattle.command_diff.specs.DiffText.{new_word, old_word}
use Rattle.command_diff.proofs.LineLaws.{new_refused, old_refused, side_refused_lem}
use Rattle.command_diff.proofs.put_refused.Goals as goal

pub returns-then-new : goal.returns-then-new
returns-then-new c =
    puts_as (line_put new_refused (_ ∷ []) c.put_line.ensures (omega arith)) (rw (c.if-new.true, c.from.ensures) (side_refused_lem new_word _)) (omega arith)

pub returns : goal.returns
returns c =
    puts_as (line_put old_refused (_ ∷ []) c.put_line-2.ensures (omega arith)) (rw (c.if-new.false, c.from-2.ensures) (side_refused_lem old_word _)) (omega arith)
