-- `timers_offer` is right because it asks for the mode as the definition does.
use mathlib.Core.Path.{sym, ◌∙◌}
use Rattle.rings.proofs.TimerLaws.{offer_fddi, offer_timely}
use Rattle.rings.specs.Views.{point_of}
use Rattle.rings.proofs.timing.timers_offer.Goals as goal

pub returns-then-v-eq-FDDI : goal.returns-then-v-eq-FDDI
returns-then-v-eq-FDDI c =
    let x = c.fddi_limit.ensures in
    record { is = x.is ∙ sym (offer_fddi (point_of c.args.v) c.if-v-eq-FDDI.true); small = x.small }

pub returns : goal.returns
returns c =
    let x = c.timely_limit.ensures in
    record { is = x.is ∙ sym (offer_timely (point_of c.args.v) c.if-v-eq-FDDI.false); small = x.small }
