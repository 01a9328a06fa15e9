-- `put_fields` is right because the numbers before this one are put.
use Prim.Native.Nat.{◌*◌}
use lib.ListN.{take}
use Rattle.text.specs.Text.{fields_of}
use Rattle.text.specs.Pages.{Puts}
use Rattle.text.proofs.Page.put_fields.Given as goal

abbrev pub invariant-loop-number : goal.invariant-loop-number
invariant-loop-number l = Puts (21 * l.number-index) l.initial.self (fields_of (take l.number-index l.numbers)) l.self
