-- `piece` is right because the first so many bytes of a shorter text are all of them.
use Rattle.std.proofs.lemmas.List.{take_min}
use Rattle.line_reader.proofs.piece.Goals as goal

pub returns : goal.returns
returns c =
    rw c.min.ensures (take_min c.args.most c.args.text.now)
