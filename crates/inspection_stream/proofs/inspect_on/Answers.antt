-- `inspect_on` is right because it begins at the first byte of the piece.
use Rattle.inspection_stream.proofs.inspect_on.Goals as goal

pub returns : goal.returns
returns c =
    c.inspect_from.ensures
