-- `put_same` is right because the line has one word.
use mathlib.Core.Path.{refl}
use mathlib.Core.List.{[]}
use native.Mathlib.Omega.{arith}
use Rattle.text.specs.Text.{number_words}
use Rattle.text.proofs.PageLaws.{line_put, puts_as}
use Rattle.command_diff.specs.DiffText.{same_word}
use Rattle.command_diff.proofs.put_same.Goals as goal

pub returns : goal.returns
unfolding number_words
returns c =
    puts_as (line_put same_word [] c.put_line.ensures (omega (arith, c.requires))) refl (omega arith)
