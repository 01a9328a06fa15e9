-- `base_after` is right because its branches are the definition's own.
use Rattle.std.proofs.Common.{◌<◌, ◌≤◌, sym, ◌∙◌, arith}
use Rattle.inspection.specs.Counter.{ticks_between}
use Rattle.inspection.proofs.RecordLaws.{base_late, base_early, base_timely}
use Rattle.inspection.proofs.moving.base_after.Goals as goal

pub returns-then-head-between : goal.returns-then-head-between
returns-then-head-between c =
    let args = c.args in
    let long : args.head.ttrt ≤ ticks_between args.base args.clock = omega (arith, c.if-head-between.true, c.between.ensures) in
    c.later.ensures ∙ sym (base_late _ _ _ _ c.if-head-eq-FDDI.true long)

pub returns-then-head-eq-FDDI : goal.returns-then-head-eq-FDDI
returns-then-head-eq-FDDI c =
    let args = c.args in
    let short : ticks_between args.base args.clock < args.head.ttrt = omega (arith, c.if-head-between.false, c.between.ensures) in
    sym (base_early _ _ _ _ c.if-head-eq-FDDI.true short)

pub returns : goal.returns
returns c =
    c.later-2.ensures ∙ sym (base_timely _ _ _ _ c.if-head-eq-FDDI.false)
