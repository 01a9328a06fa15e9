-- `sum_first` is right because a place past the 128th adds nothing.
use mathlib.Core.Path.{◌∙◌}
use borrow.Author.Rules.{rules}
use Rattle.units.proofs.PlaceLaws.{sum_all}
use Rattle.units.proofs.sum_first.Goals as goal

pub returns : goal.returns
returns c =
    let args = c.args in
    record { sum = c.sum_lent.ensures.sum ∙ sum_all args.xs (search rules) args.n; small = c.sum_lent.ensures.small }
