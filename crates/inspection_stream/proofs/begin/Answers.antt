-- `begin` is right because it puts the three together.
use Rattle.inspection_stream.proofs.WholeLaws.{kept_as}
use Rattle.inspection_stream.proofs.begin.Goals as goal

pub returns : goal.returns
returns c =
    kept_as _ c.gathered_from-gathered.ensures c.look_first-looked.ensures
