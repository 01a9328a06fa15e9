-- `put_listed` is right because it puts the refusal or the lines by the number that it answers.
use native.Mathlib.Omega.{arith}
use Rattle.text.proofs.TextLaws.{refused_short}
use Rattle.text.proofs.PageLaws.{puts, puts_as}
use Rattle.command_versions.proofs.KeptLaws.{number_said, refused_said_lem, lines_said}
use Rattle.command_versions.proofs.put_listed.Goals as goal

pub returns-then-number-ne-ACCEPTED-clause-text : goal.returns-then-number-ne-ACCEPTED-clause-text
returns-then-number-ne-ACCEPTED-clause-text c =
    puts_as (puts c.put_refused.ensures (omega (arith, c.requires)) (refused_short _)) (refused_said_lem _ _ c.versions_in-kept.ensures c.if-number-ne-ACCEPTED.true) (omega arith)

pub returns-then-number-ne-ACCEPTED-clause-number : goal.returns-then-number-ne-ACCEPTED-clause-number
returns-then-number-ne-ACCEPTED-clause-number c =
    number_said _ _ c.versions_in-kept.ensures

pub returns-clause-text : goal.returns-clause-text
returns-clause-text c =
    puts_as c.put_versions.ensures (lines_said _ _ c.versions_in-kept.ensures c.if-number-ne-ACCEPTED.false) (omega arith)

pub returns-clause-number : goal.returns-clause-number
returns-clause-number c =
    number_said _ _ c.versions_in-kept.ensures
