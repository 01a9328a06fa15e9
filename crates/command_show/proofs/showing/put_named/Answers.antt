-- `put_named` is right because its line has the word and the number.
use mathlib.Core.Path.{refl}
use mathlib.Core.List.{[], ◌∷◌}
use native.Mathlib.Omega.{arith}
use Rattle.text.specs.Text.{number_words}
use Rattle.text.proofs.PageLaws.{line_put, puts_as}
use Rattle.command_show.proofs.showing.put_named.Goals as goal

pub returns : goal.returns
unfolding number_words
returns c =
    puts_as (line_put _ (_ ∷ []) c.put_line.ensures (omega arith)) refl (omega arith)
