-- `count_visits` is right because the visits that were counted and those of the records that are left are always all of them.
use Prim.Native.Nat.{◌+◌, ◌-◌, ◌≤◌}
use mathlib.Core.Path.{◌≡◌}
use Rattle.logs.specs.Reading.{handed_from}
use Rattle.plan_inspections.specs.PlanFindings.{visits_in}
use Rattle.plan_inspections.proofs.count_visits.Given as goal

abbrev pub invariant-loop : goal.invariant-loop
invariant-loop l =
    (l.visits ≤ l.counter) × (l.visits + visits_in (handed_from (l.records - l.counter) l.log l.at) ≡ visits_in (handed_from l.records l.log l.first))
