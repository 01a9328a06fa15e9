-- `count_laps` is right because no place past the 128th is there to be counted on.
use mathlib.Core.Path.{◌∙◌}
use borrow.Author.Rules.{rules}
use Rattle.arrays.specs.Laps.{laps_counted}
use Rattle.arrays.proofs.LoopLaws.{fill_all}
use Rattle.arrays.proofs.count_laps.Goals as goal

pub returns : goal.returns
unfolding laps_counted
returns c =
    c.count.ensures ∙ fill_all _ _ (search rules) _
