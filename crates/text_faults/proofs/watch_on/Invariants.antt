-- `watch_on` is right because after i turns the text stands behind its first i bytes.
use mathlib.Core.Path.{◌≡◌}
use lib.ListN.{take}
use Rattle.text_faults.specs.Watching.{watch_after}
use Rattle.text_faults.proofs.watch_on.Given as goal

abbrev pub invariant-loop-byte : goal.invariant-loop-byte
invariant-loop-byte l =
    l.stands ≡ watch_after l.initial.stands (take l.byte-index l.text)
