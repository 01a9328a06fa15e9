-- `watch_start` is right because it reads the plan, and of the records nothing.
use Rattle.std.proofs.Common.{refl}
use Rattle.picture_stream.proofs.watch_start.Goals as goal

pub returns : goal.returns
returns c =
    rw (c.nothing-seen.ensures, c.begin-inspecting.ensures, c.read_start-start.ensures) refl
