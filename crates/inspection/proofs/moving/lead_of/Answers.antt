-- `lead_of` is right because its branch is the definition's.
use Rattle.std.proofs.Common.{sym}
use Rattle.rings.proofs.TimerLaws.{lead_all, lead_none}
use Rattle.inspection.proofs.moving.lead_of.Goals as goal

pub returns-then-head-eq-EARLIER : goal.returns-then-head-eq-EARLIER
returns-then-head-eq-EARLIER c n w c' d p =
    sym (lead_all _ c.if-head-eq-EARLIER.true _)

pub returns : goal.returns
returns c n w c' d p =
    sym (lead_none _ c.if-head-eq-EARLIER.false _)
