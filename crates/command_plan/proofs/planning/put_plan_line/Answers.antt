-- `put_plan_line` is right because its line has the word and the four numbers.
use mathlib.Core.Path.{refl}
use mathlib.Core.List.{[], ◌∷◌}
use native.Mathlib.Omega.{arith}
use Rattle.text.specs.Text.{number_words}
use Rattle.text.proofs.PageLaws.{line_put, puts_as}
use Rattle.command_plan.specs.PlanText.{plan_word}
use Rattle.command_plan.proofs.planning.put_plan_line.Goals as goal

pub returns : goal.returns
unfolding number_words
returns c =
    puts_as (line_put plan_word (_ ∷ _ ∷ _ ∷ _ ∷ []) c.put_line.ensures (omega arith)) refl (omega arith)
