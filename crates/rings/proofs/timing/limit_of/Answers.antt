-- `limit_of` is right because its branch is the definition's: nothing for a marked station, else what the timers offer.
use mathlib.Core.Path.{sym, ◌∙◌}
use native.Mathlib.Omega.{arith}
use Rattle.rings.proofs.TimerLaws.{none_left, limit_marked, limit_unmarked}
use Rattle.rings.specs.Views.{point_of}
use Rattle.rings.proofs.timing.limit_of.Goals as goal

pub returns-then-v-gt0 : goal.returns-then-v-gt0
returns-then-v-gt0 c =
    record { is = sym (limit_marked (point_of c.args.v) c.if-v-gt0.true); small = omega arith }

pub returns : goal.returns
returns c =
    let x = c.timers_offer.ensures in
    record { is = x.is ∙ sym (limit_unmarked (point_of c.args.v) (none_left _ c.if-v-gt0.false)); small = x.small }
