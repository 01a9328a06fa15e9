-- `fields_length` is right because its body is the definition.
use native.Mathlib.Omega.{arith}
use Rattle.fields.proofs.FieldLaws.{allocations_few}
use Rattle.sheets.proofs.WritingLaws.{head_small}
use Rattle.sheets.proofs.writing.fields_length.Goals as goal

pub overflow_add-result : goal.overflow_add-result
overflow_add-result c =
    omega (arith, head_small c.args.t.now.head 3)

pub overflow_add-result-2 : goal.overflow_add-result-2
overflow_add-result-2 c =
    omega (arith, head_small c.args.t.now.head 3)

pub overflow_add-result-3 : goal.overflow_add-result-3
overflow_add-result-3 c =
    let args = c.args in
    omega (arith, head_small args.t.now.head 3, allocations_few args.plan args.t.now.n)
