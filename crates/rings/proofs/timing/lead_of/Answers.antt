-- `lead_of` is right because its branch is the definition's.
use mathlib.Core.Path.{sym}
use native.Mathlib.Omega.{arith}
use Rattle.rings.proofs.TimerLaws.{lead_all, lead_none}
use Rattle.rings.specs.Views.{point_of}
use Rattle.rings.proofs.timing.lead_of.Goals as goal

pub returns-then-v-eq-EARLIER : goal.returns-then-v-eq-EARLIER
returns-then-v-eq-EARLIER c =
    record { is = sym (lead_all (point_of c.args.v).set c.if-v-eq-EARLIER.true _); small = omega arith }

pub returns : goal.returns
returns c =
    record { is = sym (lead_none (point_of c.args.v).set c.if-v-eq-EARLIER.false _); small = omega arith }
