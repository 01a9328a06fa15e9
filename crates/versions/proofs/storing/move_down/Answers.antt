-- `move_down` is right because what it copies is laid at the start.
use Prim.Native.Nat.{◌+◌, ◌-◌}
use mathlib.Core.Path.{◌∙◌}
use native.Mathlib.Omega.{arith}
use Rattle.versions.proofs.StoringLaws.{moved_laid}
use Rattle.versions.proofs.storing.move_down.Goals as goal

pub returns : goal.returns
returns c =
    let args = c.args in
    c.copy_within.ensures.after ∙ moved_laid args.out.now args.by args.n (args.by + args.n - args.by) c.requires (omega arith)
