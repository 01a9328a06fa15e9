-- `run_piece` is right because after i turns the run stands behind the piece's first i bytes, and their answers are put.
use mathlib.Core.Path.{◌≡◌}
use lib.ListN.{take}
use Rattle.command_run.specs.Runs.{run_on, some_unread}
use Rattle.command_run.specs.RunText.{said_at}
use Rattle.command_run.proofs.ByteLaws.{Said}
use Rattle.command_run.proofs.run_piece.Given as goal

abbrev pub invariant-loop-byte : goal.invariant-loop-byte
invariant-loop-byte l =
    Said run_on said_at 240 l.piece l.initial.stands l.byte-index l.stands l.initial.page l.page × (l.unread ≡ some_unread l.initial.stands (take l.byte-index l.piece))
