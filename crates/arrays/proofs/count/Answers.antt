-- `count` is right because each count becomes what `narrow_counted`, or `one_counted`, makes of it and its number.
use Rattle.std.proofs.Common.{◌+◌, rules}
use Rattle.units.specs.Places.{at}
use Rattle.arrays.specs.Held.{held}
use Rattle.arrays.specs.Laps.{laps, laps_counted}
use Rattle.arrays.proofs.count.Goals as goal

pub returns-then-x-top : goal.returns-then-x-top
unfolding laps_counted
returns-then-x-top c =
    c.change.ensures (λ i count. held (count + laps c.args.top (at c.args.xs.now i + c.args.x))) (λ i count r l e. search rules)

pub returns : goal.returns
unfolding laps_counted
returns c =
    c.change-2.ensures (λ i count. held (count + laps c.args.top (at c.args.xs.now i + c.args.x))) (λ i count r l e. search rules)
