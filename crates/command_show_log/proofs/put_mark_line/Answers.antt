-- `put_mark_line` is right because its line has the word and the two numbers.
use mathlib.Core.Path.{refl}
use mathlib.Core.List.{[], ◌∷◌}
use native.Mathlib.Omega.{arith}
use Rattle.sheet_text_rules.specs.LogText.{mark_line}
use Rattle.command_compose.specs.Compose.{mark_word}
use Rattle.text.specs.Text.{number_words}
use Rattle.text.proofs.PageLaws.{line_put, puts_as}
use Rattle.command_show_log.proofs.put_mark_line.Goals as goal

pub returns : goal.returns
unfolding number_words mark_line
returns c =
    puts_as (line_put mark_word (_ ∷ _ ∷ []) c.put_line.ensures (omega arith))
    (rw (c.from.ensures, c.from-2.ensures) refl)
    (omega arith)
