-- `put_piece` is right because its body is the definition, and a number has at most 20 digits.
use mathlib.Core.Path.{refl}
use native.Mathlib.Omega.{arith}
use borrow.Author.Tests.{eq-eqb, ne_eqb}
use Rattle.text.specs.Filled.{piece_of}
use Rattle.text.proofs.TextLaws.{decimal_short}
use Rattle.text.proofs.PageLaws.{puts_as}
use Rattle.text.proofs.Page.put_piece.Goals as goal

pub put_decimal-requires : goal.put_decimal-requires
put_decimal-requires c =
    omega (arith, c.requires, decimal_short 20 c.args.n)

pub returns-then-byte-eq35 : goal.returns-then-byte-eq35
unfolding piece_of
returns-then-byte-eq35 c =
    rw (eq-eqb _ _ c.if-byte-eq35.true) (puts_as c.put_decimal.ensures refl (decimal_short 20 _))

pub returns : goal.returns
unfolding piece_of
returns c =
    rw (ne_eqb _ _ c.if-byte-eq35.false) (puts_as c.put_byte.ensures refl (omega arith))
