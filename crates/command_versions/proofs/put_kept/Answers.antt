-- `put_kept` is right because it puts the refusal or the line by the number.
use mathlib.Core.Path.{sym}
use native.Mathlib.Omega.{arith}
use Rattle.text.proofs.TextLaws.{refused_short, text_accepted, text_refused}
use Rattle.text.proofs.PageLaws.{puts, puts_as}
use Rattle.command_versions.proofs.put_kept.Goals as goal

pub returns-then-number-ne-ACCEPTED : goal.returns-then-number-ne-ACCEPTED
returns-then-number-ne-ACCEPTED c =
    puts_as (puts c.put_refused.ensures (omega (arith, c.requires)) (refused_short _)) (sym (text_refused _ _ c.if-number-ne-ACCEPTED.true)) (omega arith)

pub returns : goal.returns
returns c =
    puts_as c.put_stored.ensures (sym (text_accepted _ _ c.if-number-ne-ACCEPTED.false)) (omega arith)
