-- `walk_time` is right because it sums the places of w, and a place past the 128th adds nothing.
use mathlib.Core.Path.{◌∙◌}
use borrow.Author.Rules.{rules}
use Rattle.units.proofs.PlaceLaws.{sum_all}
use Rattle.sets.proofs.walk_time.Goals as goal

pub returns : goal.returns
returns c =
    let t = c.args.t in
    record { sum = c.sum_lent.ensures.sum ∙ sum_all t.w (search rules) t.n; small = c.sum_lent.ensures.small }
