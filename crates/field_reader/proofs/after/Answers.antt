-- `after` is right because it leaves the cursor for any number but 0, as the definition does.
use mathlib.Core.Path.{sym}
use Rattle.field_reader.proofs.CursorLaws.{stays, moves}
use Rattle.field_reader.proofs.after.Goals as goal

pub returns-then-field-ne-ACCEPTED : goal.returns-then-field-ne-ACCEPTED
returns-then-field-ne-ACCEPTED c =
    sym (stays c.args.at c.args.field c.if-field-ne-ACCEPTED.true)

pub returns : goal.returns
returns c =
    sym (moves c.args.at c.args.field c.if-field-ne-ACCEPTED.false)
