-- `number_at` is right because the library puts the four bytes together as the definition does.
use Rattle.fields.specs.Bytes.{number_at}
use Rattle.sheets.proofs.bytes.number_at.Goals as goal

pub returns : goal.returns
unfolding number_at
returns c =
    c.from_be_bytes.ensures
