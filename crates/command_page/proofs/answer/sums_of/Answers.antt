-- A* is at most TTRT, so the burst does not wrap.
use Rattle.std.proofs.Common.{arith}
use Rattle.command_page.proofs.AccountLaws.{spare_small}
use Rattle.command_page.proofs.answer.sums_of.Goals as goal

pub overflow_add-result : goal.overflow_add-result
overflow_add-result c =
    let args = c.args in
    omega (arith, c.spare-spare.ensures, spare_small args.t args.a)
