-- `put_refused` is right because it puts the word and the number as a line.
use mathlib.Core.List.{[], ◌∷◌}
use native.Mathlib.Omega.{arith}
use Rattle.text.specs.Text.{refused_word, number_words}
use Rattle.text.proofs.PageLaws.{within, line_put, puts_as}
use Rattle.text.proofs.Page.put_refused.Goals as goal

pub returns : goal.returns
unfolding number_words
returns c =
    within (omega arith) (puts_as (line_put refused_word (_ ∷ []) c.put_line.ensures (omega arith)) (rw c.from.ensures) (omega arith))
