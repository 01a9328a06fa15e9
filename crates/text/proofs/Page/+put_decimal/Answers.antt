-- `put_decimal` is right because the last digit of a number stands behind the digits of its tenth.
use Rattle.std.proofs.Common.{arith, sym, ap, ◌/◌, ◌%◌, [], ◌∷◌, length}
use lib.ListN.{length-append}
use Rattle.text.proofs.TextLaws.{decimal_digit, decimal_last}
use Rattle.text.proofs.PageLaws.{puts_then, puts_as}
use Rattle.text.specs.Text.{digit, decimal_of}
use Rattle.text.proofs.Page.+put_decimal.Goals as goal

pub put_digit-requires : goal.put_digit-requires
put_digit-requires t c =
    (c.if-n-lt10.true, rw (decimal_digit c.args.n c.if-n-lt10.true) at c.requires)

pub returns-then-n-lt10 : goal.returns-then-n-lt10
returns-then-n-lt10 t c = rw (decimal_digit c.args.n c.if-n-lt10.true) c.put_digit.ensures

pub put_decimal-requires : goal.put_decimal-requires
put_decimal-requires t c =
    let n = c.args.n in
    let e = decimal_last n c.ranges.n.fits c.if-n-lt10.false in
    (omega arith, omega (arith, c.requires, ap length e, length-append (decimal_of (n / 10)) (digit (n % 10) ∷ [])))

pub put_digit-requires-2 : goal.put_digit-requires-2
put_digit-requires-2 t c =
    let n = c.args.n in
    let e = decimal_last n c.ranges.n.fits c.if-n-lt10.false in (
      omega arith,
      omega (arith, c.requires, c.put_decimal.ensures.size, c.put_decimal.ensures.put.put.next, ap length e, length-append (decimal_of (n / 10)) (digit (n % 10) ∷ [])),
    )

pub returns : goal.returns
returns t c =
    let n = c.args.n in
    let e = decimal_last n c.ranges.n.fits c.if-n-lt10.false in
    let long = length-append (decimal_of (n / 10)) (digit (n % 10) ∷ []) in
    puts_as (puts_then c.put_decimal.ensures c.put_digit-2.ensures (omega (arith, c.requires, ap length e, long))) (sym e) (omega (arith, ap length e, long))
