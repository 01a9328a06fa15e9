-- `put_body` is right because the mode has one byte, and every other number four.
use mathlib.Core.Path.{◌≡◌, ap, ◌∙◌}
use native.Mathlib.Omega.{arith}
use Rattle.fields.specs.Bytes.{body_of}
use Rattle.fields.specs.Fields.{further_size}
use Rattle.fields.proofs.FieldLaws.{further_one, further_four}
use Rattle.sheets.proofs.writing.put_body.Goals as goal

pub put_byte-requires : goal.put_byte-requires
put_byte-requires c =
    let one : further_size c.args.tag ≡ 1 = ap further_size c.if-tag-eq-MODE_TAG.true ∙ further_one in
    omega (arith, c.requires, one)

pub put_number-requires : goal.put_number-requires
put_number-requires c =
    let four : further_size c.args.tag ≡ 4 = further_four _ c.if-tag-eq-MODE_TAG.false in
    omega (arith, c.requires, four)

pub returns-then-tag-eq-MODE_TAG : goal.returns-then-tag-eq-MODE_TAG
unfolding body_of
returns-then-tag-eq-MODE_TAG c =
    let one : further_size c.args.tag ≡ 1 = ap further_size c.if-tag-eq-MODE_TAG.true ∙ further_one in
    rw one c.put_byte.ensures

pub returns-else-tag-eq-MODE_TAG : goal.returns-else-tag-eq-MODE_TAG
unfolding body_of
returns-else-tag-eq-MODE_TAG c =
    let four : further_size c.args.tag ≡ 4 = further_four _ c.if-tag-eq-MODE_TAG.false in
    rw four c.put_number.ensures
