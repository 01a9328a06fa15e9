-- `raised` is right because no place past the 128th is there to rise.
use mathlib.Core.Path.{◌∙◌}
use borrow.Author.Rules.{rules}
use Rattle.arrays.specs.Held.{raised_held}
use Rattle.arrays.proofs.LoopLaws.{fill_all}
use Rattle.arrays.proofs.raised.Goals as goal

pub returns : goal.returns
unfolding raised_held
returns c =
    c.raise.ensures ∙ fill_all _ _ (search rules) _
