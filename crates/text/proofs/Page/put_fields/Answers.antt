-- `put_fields` is right because the numbers before this one are put.
use Prim.Native.Nat.{◌<◌}
use native.Mathlib.Numerals.{add-one}
use native.Mathlib.Omega.{arith}
use lib.ListN.{length, take}
use lib.Seq.{take-suc}
use Rattle.text.specs.Text.{fields_of}
use Rattle.text.proofs.TextLaws.{fields_next}
use Rattle.text.proofs.PageLaws.{puts_none, puts_then, puts_as}
use Rattle.text.proofs.Page.put_fields.Goals as goal

pub loop-number-init : goal.loop-number-init
unfolding fields_of
loop-number-init c = puts_none _

pub put_spaced-requires : goal.put_spaced-requires
put_spaced-requires c =
    let before = c.loop-number.invariant in
    omega (arith, c.requires, before.put.put.next, before.put.short, before.size)

pub loop-number-preserved : goal.loop-number-preserved
loop-number-preserved c =
    let i = c.loop-number.number-index in
    let numbers = c.args.numbers.now in
    let more : i < length numbers = omega arith in
    puts_as (puts_then c.loop-number.invariant c.put_spaced.ensures (omega (arith, c.requires)))
    (rw (add-one, take-suc numbers i 0 more) (fields_next (take i numbers) _)) (omega arith)
