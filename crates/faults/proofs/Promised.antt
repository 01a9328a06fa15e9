-- What `specs/Promised.antt` promises.
use Rattle.faults.specs.Promised.{Promised}
use Rattle.faults.proofs.Cases.{cases_hold}
use Rattle.faults.proofs.HoldingLaws.{held, planned_too, planned_same, seven}
use Rattle.faults.proofs.RangeLaws.{none_listed, none_listed_plan, four, four_plan}

pub promised : Promised
promised =
    record {
      held = held;
      seven = seven;
      planned_too = planned_too;
      planned_same = planned_same;
      none_listed = none_listed;
      none_listed_plan = none_listed_plan;
      four = four;
      four_plan = four_plan;
      cases = cases_hold;
    }
