-- `copy_in` is right because what it copies is laid at the place.
use mathlib.Core.Path.{ap, ◌∙◌}
use native.Mathlib.Omega.{arith}
use lib.ListN.{length}
use Rattle.fields.specs.Rows.{laid}
use Rattle.sheets.proofs.WritingLaws.{part_laid}
use Rattle.versions.proofs.storing.copy_in.Goals as goal

pub returns : goal.returns
returns c =
    let args = c.args in
    let same = c.copy_from_slice.ensures.after in
    part_laid args.out.now c.copy_from_slice.new.self args.from _ (omega (arith, ap length same)) ∙ ap (laid args.out.now args.from) same
