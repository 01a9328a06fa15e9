-- `run_on` is right because no place past the 128th is there to run on.
use mathlib.Core.Path.{◌∙◌}
use borrow.Author.Rules.{rules}
use Rattle.arrays.specs.Laps.{ran_on}
use Rattle.arrays.proofs.LoopLaws.{fill_all}
use Rattle.arrays.proofs.run_on.Goals as goal

pub returns : goal.returns
unfolding ran_on
returns c =
    c.run.ensures ∙ fill_all _ _ (search rules) _
