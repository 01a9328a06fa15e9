-- `fddi_limit` is right because its branch is the definition's: nothing where the count is above 0, else the difference, held at 0.
use mathlib.Core.Path.{◌≡◌, sym, ◌∙◌}
use native.Mathlib.Omega.{arith}
use Rattle.rings.proofs.TimerLaws.{offered_late, offered_early}
use Rattle.rings.proofs.timing.fddi_limit.Goals as goal

pub returns-then-v-gt0 : goal.returns-then-v-gt0
returns-then-v-gt0 c =
    record { is = sym (offered_late _ _ c.if-v-gt0.true); small = omega arith }

pub returns : goal.returns
returns c =
    let v = c.args.v in
    let early : v.late ≡ 0 = omega (arith, c.if-v-gt0.false) in
    record { is = c.from.ensures ∙ c.saturating_sub.ensures ∙ sym (offered_early _ _ early); small = omega arith }
