-- `read_body` is right because the mode has one byte, and every other number four.
use mathlib.Core.Path.{◌≡◌, ap, ◌∙◌}
use Rattle.fields.specs.Bytes.{body_at}
use Rattle.fields.specs.Fields.{further_size}
use Rattle.fields.proofs.FieldLaws.{further_one, further_four}
use Rattle.sheets.proofs.reading.read_body.Goals as goal

pub returns-then-tag-eq-MODE_TAG : goal.returns-then-tag-eq-MODE_TAG
unfolding body_at
returns-then-tag-eq-MODE_TAG c =
    let size : further_size c.args.tag ≡ 1 = ap further_size c.if-tag-eq-MODE_TAG.true ∙ further_one in
    rw size c.from.ensures

pub returns : goal.returns
unfolding body_at
returns c =
    let size : further_size c.args.tag ≡ 4 = further_four _ c.if-tag-eq-MODE_TAG.false in
    rw size c.number_at.ensures
