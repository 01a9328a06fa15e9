-- `list_byte` is right because a newline ends the line and every other byte is read as one more of it.
use mathlib.Core.Path.{◌∙◌}
use Rattle.command_hopper.proofs.TextLaws.{list_ends, list_goes_on}
use Rattle.command_hopper.proofs.list_byte.Goals as goal

pub returns-then-byte-eq10 : goal.returns-then-byte-eq10
returns-then-byte-eq10 c =
    c.end_line.ensures ∙ list_ends _ _ c.if-byte-eq10.true

pub returns : goal.returns
returns c =
    rw c.step-scan.ensures (list_goes_on _ _ c.if-byte-eq10.false)
