-- `lay_visit` is right because the start of the field and its five numbers are laid one behind the other.
use mathlib.Core.Path.{refl}
use native.Mathlib.Omega.{arith}
use Rattle.fields.specs.Bytes.{bytes_of}
use Rattle.fields.proofs.SegmentLaws.{laid_more}
use Rattle.log_records.specs.Visit.{visit_bytes}
use Rattle.sheets.proofs.records.lay_visit.Goals as goal

pub returns : goal.returns
unfolding visit_bytes bytes_of
returns c =
    let fit = c.requires in
    let s = laid_more _ _ _ _ _ _ _ c.put_start.ensures refl c.put_byte.ensures (omega arith) in
    let e₁ = laid_more _ _ _ _ _ _ _ s refl c.put_number.ensures (omega arith) in
    let e₂ = laid_more _ _ _ _ _ _ _ e₁ refl c.put_number-2.ensures (omega arith) in
    let e₃ = laid_more _ _ _ _ _ _ _ e₂ refl c.put_number-3.ensures (omega arith) in
    laid_more _ _ _ _ _ _ _ e₃ refl c.put_number-4.ensures (omega arith)
