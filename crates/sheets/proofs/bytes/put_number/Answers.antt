-- `put_number` is right because the library's bytes of a number are those of the definition, and they are laid at the place.
use mathlib.Core.Path.{ap, ◌∙◌}
use native.Mathlib.Omega.{arith}
use lib.ListN.{length}
use Rattle.fields.specs.Rows.{laid}
use Rattle.fields.specs.Bytes.{bytes_of}
use Rattle.sheets.proofs.WritingLaws.{part_laid}
use Rattle.sheets.proofs.bytes.put_number.Goals as goal

pub returns : goal.returns
unfolding bytes_of
returns c =
    let args = c.args in
    let same = c.copy_from_slice.ensures.after ∙ c.to_be_bytes.ensures in
    part_laid args.out.now c.copy_from_slice.new.self args.at _ (omega (arith, ap length same)) ∙ ap (laid args.out.now args.at) same
