-- `put_number` is right because it tests for the room, and then writes the four bytes.
use native.Mathlib.Omega.{arith}
use Rattle.fields.specs.Bytes.{bytes_of}
use Rattle.fields.proofs.ByteLaws.{bytes_length}
use Rattle.sheets.proofs.WritingLaws.{put_short, put_there}
use Rattle.sheets.proofs.records.put_number.Goals as goal

pub returns-then-saturating_sub-lt4 : goal.returns-then-saturating_sub-lt4
returns-then-saturating_sub-lt4 c =
    let args = c.args in
    let left = c.saturating_sub.ensures in
    put_short args.out.now args.at (bytes_of args.x) 0 (omega (arith, bytes_length args.x))

pub returns : goal.returns
returns c =
    let args = c.args in
    let left = c.saturating_sub.ensures in
    put_there args.out.now args.at (bytes_of args.x) 0 _ (omega (arith, bytes_length args.x)) c.put_number.ensures
