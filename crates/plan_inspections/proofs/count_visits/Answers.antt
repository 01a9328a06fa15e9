-- `count_visits` is right because the visits that were counted and those of the records that are left are always all of them.
use native.Mathlib.Omega.{arith}
use Rattle.plan_inspections.proofs.FindingLaws.{one_at_most, counted_first, counted_on, counted_all}
use Rattle.plan_inspections.proofs.count_visits.Goals as goal

pub loop-init : goal.loop-init
loop-init c =
    (omega arith, counted_first _ _ _)

pub overflow_add-visits : goal.overflow_add-visits
overflow_add-visits c =
    omega (arith, c.loop.invariant.0, c.visit_count-visits.ensures, one_at_most c.log_entry-handed.result.entry)

pub loop-preserved : goal.loop-preserved
loop-preserved c = (
  omega (arith, c.loop.invariant.0, c.visit_count-visits.ensures, one_at_most c.log_entry-handed.result.entry),
  counted_on _ _ _ _ _ _ _ c.log_entry-handed.result c.loop-test.true c.log_entry-handed.ensures c.visit_count-visits.ensures c.loop.invariant.1,
)

pub returns : goal.returns
returns c =
    counted_all _ _ _ _ _ _ c.loop-test.false c.loop.invariant.1
