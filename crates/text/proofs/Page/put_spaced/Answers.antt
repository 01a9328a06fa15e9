-- `put_spaced` is right because the number stands behind the space.
use mathlib.Core.Path.{refl}
use native.Mathlib.Omega.{arith}
use Rattle.text.proofs.TextLaws.{decimal_short}
use Rattle.text.proofs.PageLaws.{puts_then, puts_as}
use Rattle.text.proofs.Page.put_spaced.Goals as goal

pub put_decimal-requires : goal.put_decimal-requires
put_decimal-requires c =
    omega (arith, c.put_byte.ensures.put.put.next, c.put_byte.ensures.size, c.requires, decimal_short 20 c.args.n)

pub returns : goal.returns
returns c =
    puts_as (puts_then c.put_byte.ensures c.put_decimal.ensures (omega (arith, c.requires, decimal_short 20 c.args.n))) refl (omega (arith, decimal_short 20 c.args.n))
