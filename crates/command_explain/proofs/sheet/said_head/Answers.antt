-- `said_head` is right because the place of F and that of g are behind the fields before them.
use mathlib.Core.Path.{refl}
use Rattle.fields.specs.Header.{further_place}
use Rattle.command_explain.proofs.sheet.said_head.Goals as goal

pub returns : goal.returns
unfolding further_place
returns c =
    rw (c.said_number-grid.ensures, c.said_number-frame.ensures, c.said_number-mode.ensures, c.behind-grid_at.ensures.0, c.behind-frame_at.ensures.0) refl
