-- `put_share_line` is right because S stands behind the station's number.
use mathlib.Core.Path.{refl}
use mathlib.Core.List.{[], ◌∷◌}
use native.Mathlib.Omega.{arith}
use Rattle.text.specs.Text.{line, number_words}
use Rattle.text.proofs.TextLaws.{decimal_short}
use Rattle.text.proofs.PageLaws.{puts, line_then, puts_as}
use Rattle.command_plan.proofs.planning.put_share_line.Goals as goal

pub returns : goal.returns
unfolding line number_words
returns c =
    let one = puts c.put_number.ensures (omega (arith, c.requires)) (decimal_short 20 _) in
    puts_as (line_then [] (c.args.s ∷ []) one c.put_line.ensures (omega (arith, c.requires))) refl (omega arith)
