-- `show_piece` is right because after i turns the records stand behind the first i bytes, and their lines are put.
use Prim.Native.Nat.{◌*◌}
use mathlib.Core.Path.{◌≡◌}
use lib.ListN.{take}
use Rattle.log_stream.specs.Pieces.{read_over, handed_over}
use Rattle.text.specs.Pages.{Puts}
use Rattle.command_show_log.specs.LogShown.{lines_for}
use Rattle.command_show_log.proofs.show_piece.Given as goal

abbrev pub invariant-loop-byte : goal.invariant-loop-byte
invariant-loop-byte l =
    (l.gathered ≡ read_over l.initial.gathered (take l.byte-index l.bytes)) × Puts (126 * l.byte-index) l.initial.page (lines_for l.number (handed_over l.initial.gathered (take l.byte-index l.bytes))) l.page
