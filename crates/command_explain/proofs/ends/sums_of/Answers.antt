-- A* is at most TTRT, so the burst does not wrap.
use native.Mathlib.Omega.{arith}
use Rattle.command_explain.proofs.SumLaws.{spare_small}
use Rattle.command_explain.proofs.ends.sums_of.Goals as goal

pub overflow_add-result : goal.overflow_add-result
overflow_add-result c =
    omega (arith, c.spare-spare.ensures, spare_small c.args.t c.args.a)
