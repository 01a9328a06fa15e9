-- `put_start` is right because the three bytes are laid at the place.
use mathlib.Core.Path.{ap, ◌∙◌}
use native.Mathlib.Omega.{arith}
use lib.ListN.{length}
use Rattle.fields.specs.Rows.{laid}
use Rattle.sheets.proofs.WritingLaws.{part_laid}
use Rattle.sheets.proofs.bytes.put_start.Goals as goal

pub returns : goal.returns
returns c =
    let args = c.args in
    let same = c.copy_from_slice.ensures.after in
    part_laid args.out.now c.copy_from_slice.new.self args.at _ (omega (arith, ap length same)) ∙ ap (laid args.out.now args.at) same
