-- `put_words` is right because the plan's first line stands behind the version's number.
use mathlib.Core.Path.{refl}
use mathlib.Core.List.{[], ◌∷◌}
use native.Mathlib.Omega.{arith}
use Rattle.text.specs.Text.{space, line, number_words}
use Rattle.text.proofs.TextLaws.{decimal_short}
use Rattle.text.proofs.PageLaws.{puts, line_then, puts_as}
use Rattle.command_plan.specs.PlanText.{plan_word}
use Rattle.command_versions.proofs.listing.put_words.Goals as goal

pub returns : goal.returns
unfolding line number_words
returns c =
    let one = puts c.put_number.ensures (omega (arith, c.requires)) (decimal_short 20 _) in
    let args = c.args in
    puts_as (line_then (space ∷ plan_word) (args.n ∷ args.ttrt ∷ args.tau ∷ args.spare ∷ []) one c.put_line.ensures (omega (arith, c.requires))) refl (omega arith)
