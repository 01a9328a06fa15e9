-- `write_sheet` is right because it keeps the answer of a writing that was refused, and else lays the end behind the fields.
use native.Mathlib.Omega.{arith}
use Rattle.sheets.proofs.WritingLaws.{wrote_refused, fields_fit, fields_end, wrote_all}
use Rattle.sheets.proofs.writing.write_sheet.Goals as goal

pub returns-then-so_far-ne-ACCEPTED : goal.returns-then-so_far-ne-ACCEPTED
returns-then-so_far-ne-ACCEPTED c =
    wrote_refused c.args.plan c.args.t.now c.args.a.now c.args.out.now _ _ c.write_fields-so_far.ensures c.if-so_far-ne-ACCEPTED.true

pub put_start-requires : goal.put_start-requires
put_start-requires c =
    let fit = fields_fit c.args.plan c.args.t.now c.args.a.now c.args.out.now _ _ c.write_fields-so_far.ensures c.if-so_far-ne-ACCEPTED.false in
    let end = fields_end c.args.plan c.args.t.now c.args.a.now c.args.out.now _ _ c.write_fields-so_far.ensures c.if-so_far-ne-ACCEPTED.false in
    omega arith

pub returns : goal.returns
returns c =
    wrote_all c.args.plan c.args.t.now c.args.a.now c.args.out.now _ _ c.write_fields-so_far.ensures c.if-so_far-ne-ACCEPTED.false _ c.put_start.ensures

pub overflow_add-result : goal.overflow_add-result
overflow_add-result c =
    let fit = fields_fit c.args.plan c.args.t.now c.args.a.now c.args.out.now _ _ c.write_fields-so_far.ensures c.if-so_far-ne-ACCEPTED.false in
    let end = fields_end c.args.plan c.args.t.now c.args.a.now c.args.out.now _ _ c.write_fields-so_far.ensures c.if-so_far-ne-ACCEPTED.false in
    omega (arith, fit, end, c.well_formed)
