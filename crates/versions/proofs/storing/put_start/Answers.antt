-- `put_start` is right because three stores in a row lay a segment of three bytes.
use Rattle.fields.proofs.SegmentLaws.{laid_three}
use Rattle.versions.proofs.storing.put_start.Goals as goal

pub returns : goal.returns
returns c =
    laid_three _ _ _ _ _ c.requires.1
