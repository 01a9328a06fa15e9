-- `put_number` is right because a number has at most 20 digits.
use mathlib.Core.Path.{refl}
use native.Mathlib.Omega.{arith}
use Rattle.text.proofs.TextLaws.{decimal_short}
use Rattle.text.proofs.PageLaws.{within, puts_as}
use Rattle.text.proofs.Page.put_number.Goals as goal

pub put_decimal-requires : goal.put_decimal-requires
put_decimal-requires c =
    omega (arith, decimal_short 20 c.args.number)

pub returns : goal.returns
returns c =
    within (omega arith) (puts_as c.put_decimal.ensures refl (decimal_short 20 _))
