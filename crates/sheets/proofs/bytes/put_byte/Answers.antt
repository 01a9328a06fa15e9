-- `put_byte` is right because one store lays a segment of one byte.
use Rattle.fields.proofs.SegmentLaws.{laid_one}
use Rattle.sheets.proofs.bytes.put_byte.Goals as goal

pub returns : goal.returns
returns c =
    rw c.low_byte.ensures (laid_one _ _ _ c.requires)
