-- `most_sent` is right because its branch is the definition's: nothing for a marked station, else S.
use mathlib.Core.Path.{sym, ◌∙◌}
use native.Mathlib.Omega.{arith}
use Rattle.rings.proofs.TimerLaws.{none_left}
use Rattle.rings.proofs.RingLaws.{most_marked, most_unmarked}
use Rattle.rings.specs.Views.{point_of}
use Rattle.rings.proofs.steps.most_sent.Goals as goal

pub returns-then-v-gt0 : goal.returns-then-v-gt0
returns-then-v-gt0 c =
    record { is = sym (most_marked (point_of c.args.v) c.if-v-gt0.true); small = omega arith }

pub returns : goal.returns
returns c =
    let x = c.from.ensures in
    record { is = x ∙ sym (most_unmarked (point_of c.args.v) (none_left _ c.if-v-gt0.false)); small = omega (arith, x) }
