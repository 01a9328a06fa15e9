-- `put_visit_line` is right because its line has the word and the five numbers.
use mathlib.Core.Path.{refl}
use mathlib.Core.List.{[], ◌∷◌}
use native.Mathlib.Omega.{arith}
use Rattle.sheet_text_rules.specs.LogText.{visit_line}
use Rattle.command_compose.specs.Compose.{visit_word}
use Rattle.text.specs.Text.{number_words}
use Rattle.text.proofs.PageLaws.{line_put, puts_as}
use Rattle.command_show_log.proofs.put_visit_line.Goals as goal

pub returns : goal.returns
unfolding number_words visit_line
returns c =
    puts_as (line_put visit_word (_ ∷ _ ∷ _ ∷ _ ∷ _ ∷ []) c.put_line.ensures (omega arith))
    (rw (c.from-station.ensures, c.from-start.ensures, c.from-limit.ensures, c.from-synchronous.ensures, c.from-asynchronous.ensures) refl)
    (omega arith)
