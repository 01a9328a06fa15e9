-- `put_margin` is right because the dash stands before a number below 0 and before no other.
use mathlib.Core.Path.{sym, ap, ◌∙◌}
use mir.Syntax.{w64}
use mir.Val.{to_z, of_z}
use mir.ValLaws.{to_z-of_z}
use Rattle.command_run.specs.RunText.{sign_of, without_sign}
use native.Mathlib.Omega.{arith}
use Rattle.text.proofs.TextLaws.{decimal_short, field_short}
use Rattle.text.proofs.PageLaws.{puts, puts_as, within_then}
use Rattle.command_run.proofs.RunLaws.{sign_late, sign_none, magnitude_of}
use Rattle.command_run.proofs.put_margin.Goals as goal

pub returns-then-margin-lt0 : goal.returns-then-margin-lt0
returns-then-margin-lt0 c =
    let stored = to_z-of_z w64 c.args.margin c.ranges.margin in
    let sign = sym (ap sign_of stored) ∙ sign_late (to_z w64 (of_z w64 c.args.margin)) c.if-margin-lt0.true in
    let number = c.unsigned_abs-number.ensures.value ∙ magnitude_of _ ∙ ap without_sign stored in
    let one = puts c.put_short.ensures (omega (arith, c.requires)) (omega arith) in
    puts_as (within_then one c.put_number.ensures (decimal_short 20 _) (omega (arith, c.requires)))
    (rw (sign, ← number)) (omega arith)

pub returns : goal.returns
returns c =
    let stored = to_z-of_z w64 c.args.margin c.ranges.margin in
    let sign = sym (ap sign_of stored) ∙ sign_none (to_z w64 (of_z w64 c.args.margin)) c.if-margin-lt0.false in
    let number = c.unsigned_abs-number.ensures.value ∙ magnitude_of _ ∙ ap without_sign stored in
    puts_as (puts c.put_field.ensures (omega (arith, c.requires)) (field_short _)) (rw (sign, ← number)) (omega arith)
