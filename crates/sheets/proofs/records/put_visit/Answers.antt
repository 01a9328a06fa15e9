-- `put_visit` is right because it tests for the room, and then lays the field.
use native.Mathlib.Omega.{arith}
use Rattle.log_records.specs.Visit.{visit_bytes}
use Rattle.log_records.proofs.VisitLaws.{visit_length_lem}
use Rattle.sheets.proofs.WritingLaws.{put_short, put_there}
use Rattle.sheets.proofs.records.put_visit.Goals as goal

pub returns-then-saturating_sub : goal.returns-then-saturating_sub
returns-then-saturating_sub c =
    let args = c.args in
    let left = c.saturating_sub.ensures in
    put_short args.out.now args.at (visit_bytes args.visit) 3 (omega (arith, visit_length_lem args.visit))

pub returns : goal.returns
returns c =
    let args = c.args in
    let left = c.saturating_sub.ensures in
    put_there args.out.now args.at (visit_bytes args.visit) 3 _ (omega (arith, visit_length_lem args.visit)) c.lay_visit.ensures
