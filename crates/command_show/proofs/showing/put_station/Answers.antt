-- `put_station` is right because its line has the station's numbers in their order, and in a plan S behind them.
use mathlib.Core.Path.{refl}
use mathlib.Core.List.{[], ◌∷◌}
use native.Mathlib.Omega.{arith}
use Rattle.sheet_text_rules.specs.ShowText.{share_words, station_line}
use Rattle.command_compose.specs.Compose.{station_word}
use Rattle.text.specs.Text.{number_words}
use Rattle.text.proofs.PageLaws.{line_put, puts_as}
use Rattle.command_show.proofs.showing.put_station.Goals as goal

pub returns-then-plan : goal.returns-then-plan
unfolding number_words share_words station_line
returns-then-plan c =
    puts_as (line_put station_word (_ ∷ _ ∷ _ ∷ _ ∷ _ ∷ []) c.put_line.ensures (omega arith))
    (rw (c.if-plan.true, c.from-w.ensures, c.from-c.ensures, c.from-d.ensures, c.from-p.ensures, c.from-s.ensures) refl)
    (omega arith)

pub returns : goal.returns
unfolding number_words share_words station_line
returns c =
    puts_as (line_put station_word (_ ∷ _ ∷ _ ∷ _ ∷ []) c.put_line-2.ensures (omega arith))
    (rw (c.if-plan.false, c.from-w.ensures, c.from-c.ensures, c.from-d.ensures, c.from-p.ensures) refl)
    (omega arith)
