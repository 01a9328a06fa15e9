-- `put_end` is right because it tests for the room, and then lays the field.
use native.Mathlib.Omega.{arith}
use Rattle.sheets.specs.Layout.{end_bytes}
use Rattle.sheets.proofs.WritingLaws.{put_short, put_there}
use Rattle.sheets.proofs.records.put_end.Goals as goal

pub returns-then-saturating_sub-lt3 : goal.returns-then-saturating_sub-lt3
returns-then-saturating_sub-lt3 c =
    let args = c.args in
    let left = c.saturating_sub.ensures in
    put_short args.out.now args.at end_bytes 0 (omega arith)

pub returns : goal.returns
returns c =
    let args = c.args in
    let left = c.saturating_sub.ensures in
    put_there args.out.now args.at end_bytes 0 _ (omega arith) c.put_start.ensures
