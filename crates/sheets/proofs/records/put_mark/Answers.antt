-- `put_mark` is right because it tests for the room, and then lays the start of the field and its two numbers one behind the other.
use mathlib.Core.Path.{refl}
use native.Mathlib.Omega.{arith}
use Rattle.fields.proofs.SegmentLaws.{laid_more}
use Rattle.log_records.specs.Mark.{mark_bytes}
use Rattle.log_records.proofs.MarkLaws.{mark_length_lem}
use Rattle.sheets.proofs.WritingLaws.{put_short, put_there}
use Rattle.sheets.proofs.records.put_mark.Goals as goal

pub returns-then-saturating_sub : goal.returns-then-saturating_sub
returns-then-saturating_sub c =
    let args = c.args in
    let left = c.saturating_sub.ensures in
    put_short args.out.now args.at (mark_bytes args.mark) 3 (omega (arith, mark_length_lem args.mark))

pub returns : goal.returns
unfolding mark_bytes
returns c =
    let args = c.args in
    let left = c.saturating_sub.ensures in
    let fit = mark_length_lem args.mark in
    let s = laid_more _ _ _ _ _ _ _ c.put_start.ensures refl c.put_byte.ensures (omega arith) in
    put_there args.out.now args.at (mark_bytes args.mark) 3 _ (omega arith)
    (laid_more _ _ _ _ _ _ _ s refl c.put_byte-2.ensures (omega arith))
