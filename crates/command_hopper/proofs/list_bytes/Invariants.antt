-- `list_bytes` is right because after i turns the first i bytes were read.
use mathlib.Core.Path.{◌≡◌}
use lib.ListN.{take}
use Rattle.command_hopper.specs.Lists.{list_over}
use Rattle.command_hopper.proofs.list_bytes.Given as goal

abbrev pub invariant-loop-byte : goal.invariant-loop-byte
invariant-loop-byte l =
    l.stands ≡ list_over l.initial.stands (take l.byte-index l.text)
