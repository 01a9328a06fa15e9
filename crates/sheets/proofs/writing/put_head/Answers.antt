-- `put_head` is right because TTRT's field and the further fields are laid one behind the other.
use mathlib.Core.Path.{refl}
use native.Mathlib.Omega.{arith}
use Rattle.fields.specs.Bytes.{bytes_of}
use Rattle.fields.specs.Header.{further_count}
use Rattle.fields.proofs.SegmentLaws.{laid_more}
use Rattle.sheets.proofs.WritingLaws.{up_to_rows, further_rows}
use Rattle.sheets.proofs.writing.put_head.Goals as goal

pub returns : goal.returns
unfolding bytes_of
returns c =
    let h = c.args.h in
    let room = c.requires in
    let ttrt = laid_more _ _ _ 0 3 _ _ c.put_start.ensures refl c.put_number.ensures (omega arith) in
    rw (up_to_rows h further_count) (laid_more _ _ _ 0 7 _ _ ttrt refl c.put_furthers.ensures (omega (arith, further_rows h further_count)))
