-- `put_number` is right because it puts nothing where the numbers are the same, and else the words of the line one behind another.
use mathlib.Core.Path.{refl}
use mathlib.Core.List.{[], ◌∷◌}
use native.Mathlib.Omega.{arith}
use Rattle.text.specs.Text.{space}
use Rattle.text.proofs.TextLaws.{decimal_short}
use Rattle.text.proofs.PageLaws.{puts_none, puts, puts_as, line_then}
use Rattle.command_diff.proofs.LineLaws.{lines_same, number_line_lem}
use Rattle.command_diff.proofs.putting.put_number.Goals as goal

pub returns-then-old-new : goal.returns-then-old-new
returns-then-old-new c =
    rw (lines_same _ _ _ c.if-old-new.true) (puts_as (puts_none _) refl (omega arith))

pub returns : goal.returns
returns c =
    let one = puts c.put_number.ensures (omega (arith, c.requires)) (decimal_short 20 _) in
    puts_as (line_then (space ∷ _ ∷ []) (_ ∷ _ ∷ []) one c.put_line.ensures (omega (arith, c.requires)))
    (rw (c.letter_of.ensures, c.from.ensures, c.from-2.ensures) (number_line_lem _ _ _ _ c.if-old-new.false))
    (omega arith)
