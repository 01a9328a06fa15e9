-- `put_stored` is right because the number stands behind the word.
use mathlib.Core.List.{[], ◌∷◌}
use native.Mathlib.Omega.{arith}
use Rattle.text.specs.Text.{number_words}
use Rattle.text.proofs.PageLaws.{line_put, puts_as}
use Rattle.command_versions.specs.KeepText.{version_word}
use Rattle.command_versions.proofs.saying.put_stored.Goals as goal

pub returns : goal.returns
unfolding number_words
returns c =
    puts_as (line_put version_word (_ ∷ []) c.put_line.ensures (omega arith)) (rw c.from.ensures) (omega arith)
