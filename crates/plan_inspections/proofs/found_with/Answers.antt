-- `found_with` is right because the records that were read are inspected, and their visits counted.
use mathlib.Core.Path.{refl}
use Rattle.plan_inspections.proofs.found_with.Goals as goal

pub returns : goal.returns
returns c x d p =
    rw (c.count_visits-visits.ensures, c.found-finding.ensures, c.inspect_lent-state.ensures.all x d p) refl
