-- `write_plan_fields` is right because it hands on what was written.
-- The proof does not name the function that is called, so that a call of another one is refused at what it does.
use Rattle.sheets.proofs.write_plan_fields.Goals as goal

pub returns : goal.returns
returns c =
    search depth 1
