-- `drop_oldest` is right because the zeros are laid behind the bytes that moved.
use native.Mathlib.Omega.{arith}
use Prim.Native.Nat.{◌+◌, ◌-◌}
use lib.ListN.{take, drop}
use Rattle.fields.proofs.SegmentLaws.{laid_more}
use Rattle.versions.specs.Layout.{zero_bytes}
use Rattle.versions.specs.Answers.{moved_down}
use Rattle.versions.proofs.StoringLaws.{part_long, zeros_long}
use Rattle.versions.proofs.storing.drop_oldest.Goals as goal

pub returns : goal.returns
unfolding moved_down
returns c =
    let args = c.args in
    let o = args.area.now in
    let n = args.end - args.by in
    let moved = part_long o args.by (args.end - args.by) (omega arith) in
    let zeros = zeros_long (args.by + 3) in
    laid_more o _ _ 0 n (take n (drop args.by o)) (zero_bytes (args.by + 3)) c.move_down.ensures (omega arith) c.clear.ensures (omega arith)
