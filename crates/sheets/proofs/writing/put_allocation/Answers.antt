-- `put_allocation` is right because the start of the field and its number are laid one behind the other.
use mathlib.Core.Path.{refl}
use native.Mathlib.Omega.{arith}
use Rattle.fields.specs.Bytes.{bytes_of}
use Rattle.sheets.specs.Layout.{allocation_with}
use Rattle.fields.proofs.SegmentLaws.{laid_more}
use Rattle.sheets.proofs.writing.put_allocation.Goals as goal

pub returns : goal.returns
unfolding allocation_with bytes_of
returns c =
    laid_more _ _ _ _ _ _ _ c.put_start.ensures refl c.put_number.ensures (omega arith)
