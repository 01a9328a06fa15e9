-- `is_allowed` is right because the start of a field is answered with 2 exactly if it may not stand there.
use Rattle.command_explain.proofs.SheetLaws.{tried}
use Rattle.command_explain.proofs.first.is_allowed.Goals as goal

pub returns : goal.returns
returns c =
    let args = c.args in
    rw c.field_at-field.ensures (tried args.passed args.tag args.size)
