-- `put_five` is right because the five numbers stand in their order.
use mathlib.Core.Path.{refl}
use mathlib.Core.List.{[], ◌∷◌}
use native.Mathlib.Omega.{arith}
use Rattle.text.specs.Text.{line, number_words}
use Rattle.text.proofs.PageLaws.{line_put, puts_as}
use Rattle.command_diff.proofs.putting.put_five.Goals as goal

pub returns : goal.returns
unfolding line number_words
returns c =
    puts_as (line_put [] (_ ∷ _ ∷ _ ∷ _ ∷ _ ∷ []) c.put_line.ensures (omega (arith, c.requires.1)))
    (rw (c.from.ensures, c.from-2.ensures, c.from-3.ensures, c.from-4.ensures, c.from-5.ensures) refl)
    (omega arith)
