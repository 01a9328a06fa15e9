-- `put_further` is right because it lays the start of the field and its body one behind the other, and nothing where the number is what its absence means.
use Prim.Native.Nat.{◌+◌}
use mathlib.Core.Path.{◌≡◌, refl, sym}
use native.Mathlib.Omega.{arith}
use Rattle.fields.specs.Fields.{further_size}
use Rattle.fields.proofs.RowLaws.{laid_none}
use Rattle.fields.proofs.SegmentLaws.{laid_more}
use Rattle.fields.proofs.FieldLaws.{further_small}
use Rattle.fields.proofs.HeaderLaws.{body_length}
use Rattle.sheets.specs.Layout.{further_length}
use Rattle.sheets.proofs.WritingLaws.{further_none, further_some, length_some}
use Rattle.sheets.proofs.writing.put_further.Goals as goal

pub overflow_cast-short : goal.overflow_cast-short
overflow_cast-short c =
    omega (arith, c.further_size-size.ensures, further_small c.args.tag)

pub put_start-requires : goal.put_start-requires
put_start-requires c =
    let long : further_length c.args.tag c.args.number ≡ 3 + further_size c.args.tag = length_some _ _ c.if-number-ne-ABSENT.true in
    omega (arith, long)

pub put_body-requires : goal.put_body-requires
put_body-requires c =
    let long : further_length c.args.tag c.args.number ≡ 3 + further_size c.args.tag = length_some _ _ c.if-number-ne-ABSENT.true in
    omega (arith, long)

pub returns-then-number-ne-ABSENT : goal.returns-then-number-ne-ABSENT
returns-then-number-ne-ABSENT c =
    let long : further_length c.args.tag c.args.number ≡ 3 + further_size c.args.tag = length_some _ _ c.if-number-ne-ABSENT.true in
    let args = c.args in
    let start = rw c.further_size-size.ensures at c.put_start.ensures in
    rw (further_some _ _ c.if-number-ne-ABSENT.true)
    (laid_more _ _ _ _ _ _ _ start refl c.put_body.ensures (omega (arith, long, body_length args.tag args.number)))

pub returns-else-number-ne-ABSENT : goal.returns-else-number-ne-ABSENT
returns-else-number-ne-ABSENT c =
    rw (further_none _ _ c.if-number-ne-ABSENT.false) (sym (laid_none _ _))
