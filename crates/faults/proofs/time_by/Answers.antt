-- `time_by` is right because each mode has its own X.
use borrow.Author.Tests.{eq-eqb, ne_eqb}
use Rattle.faults.specs.Holdings.{time_by}
use Rattle.faults.proofs.time_by.Goals as goal

pub returns-then-h-eq-FDDI : goal.returns-then-h-eq-FDDI
unfolding time_by
returns-then-h-eq-FDDI c =
    rw (eq-eqb _ _ c.if-h-eq-FDDI.true) c.least_time.ensures

pub returns : goal.returns
unfolding time_by
returns c =
    rw (ne_eqb _ _ c.if-h-eq-FDDI.false) c.least_time-2.ensures
