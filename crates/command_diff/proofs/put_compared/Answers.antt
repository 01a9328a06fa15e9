-- `put_compared` is right because it puts the refusal of the first side that is refused, or the lines, or `same` where no line was put.
use mathlib.Core.Path.{refl}
use native.Mathlib.Omega.{arith}
use Rattle.command_diff.proofs.AnswerLaws.{few_read, compared_old, compared_new, compared_same, compared_lines}
use Rattle.command_diff.proofs.put_compared.Goals as goal

pub returns-then-before-ne-ACCEPTED : goal.returns-then-before-ne-ACCEPTED
returns-then-before-ne-ACCEPTED c =
    compared_old c.read_plan-before.ensures refl c.if-before-ne-ACCEPTED.true c.put_refused.ensures

pub returns-then-after-ne-ACCEPTED : goal.returns-then-after-ne-ACCEPTED
returns-then-after-ne-ACCEPTED c =
    compared_new c.read_plan-before.ensures c.read_plan-after.ensures c.if-before-ne-ACCEPTED.false c.if-after-ne-ACCEPTED.true c.put_refused-then-after-ne-ACCEPTED.ensures

pub put_differences-requires : goal.put_differences-requires
put_differences-requires c =
    ((few_read _ _ c.read_plan-before.ensures, few_read _ _ c.read_plan-after.ensures), omega (arith, c.requires))

pub returns-then-length-begun : goal.returns-then-length-begun
returns-then-length-begun c =
    compared_same c.read_plan-before.ensures c.read_plan-after.ensures c.if-before-ne-ACCEPTED.false c.if-after-ne-ACCEPTED.false c.put_differences.ensures c.requires (omega arith) c.put_same.ensures

pub returns : goal.returns
returns c =
    compared_lines c.read_plan-before.ensures c.read_plan-after.ensures c.if-before-ne-ACCEPTED.false c.if-after-ne-ACCEPTED.false c.put_differences.ensures (omega arith)
