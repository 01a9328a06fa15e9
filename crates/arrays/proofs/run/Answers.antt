-- `run` is right because each number becomes what `narrow_on`, or `one_on`, makes of it.
use Rattle.std.proofs.Common.{◌+◌, rules}
use Rattle.arrays.specs.Held.{held}
use Rattle.arrays.specs.Laps.{lapped_twice, ran_on}
use Rattle.arrays.proofs.run.Goals as goal

pub returns-then-x-top : goal.returns-then-x-top
unfolding ran_on
returns-then-x-top c =
    c.change.ensures (λ i t. held (lapped_twice c.args.top (t + c.args.x))) (λ i t r l e. search rules)

pub returns : goal.returns
unfolding ran_on
returns c =
    c.change-2.ensures (λ i t. held (lapped_twice c.args.top (t + c.args.x))) (λ i t r l e. search rules)
