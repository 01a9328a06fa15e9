-- `put_station` is right because the start of the field and its four numbers are laid one behind the other.
use mathlib.Core.Path.{refl}
use native.Mathlib.Omega.{arith}
use Rattle.fields.specs.Bytes.{bytes_of}
use Rattle.sheets.specs.Layout.{station_with}
use Rattle.fields.proofs.SegmentLaws.{laid_more}
use Rattle.sheets.proofs.writing.put_station.Goals as goal

pub returns : goal.returns
unfolding station_with bytes_of
returns c =
    let fit = c.requires.1 in
    let w = laid_more _ _ _ _ _ _ _ c.put_start.ensures refl c.put_number.ensures (omega arith) in
    let c' = laid_more _ _ _ _ _ _ _ w refl c.put_number-2.ensures (omega arith) in
    let d = laid_more _ _ _ _ _ _ _ c' refl c.put_number-3.ensures (omega arith) in
    laid_more _ _ _ _ _ _ _ d refl c.put_number-4.ensures (omega arith)
