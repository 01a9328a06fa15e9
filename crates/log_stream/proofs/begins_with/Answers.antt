-- `begins_with` is right because a length in two bytes is the first times 256 and the second.
use mathlib.Core.Path.{refl}
use Rattle.fields.specs.Bytes.{short_at}
use Rattle.log_stream.proofs.begins_with.Goals as goal

pub returns : goal.returns
unfolding short_at
returns c =
    rw (c.from.ensures, c.from-2.ensures) refl
