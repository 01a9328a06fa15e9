-- `has_room` is right because a number is at most a quotient exactly if its product is at most the whole.
use Prim.Native.Nat.{◌+◌, ◌-◌, ◌*◌, ◌/◌, ◌^◌, ◌≤◌, ◌<◌}
use mathlib.Core.Logic.{⊎_elim}
use native.Mathlib.Omega.{arith}
use borrow.Author.Tests.{lt-ltb, le-ltb, le-leb, lt-leb}
use Rattle.units.proofs.SmallLaws.{below_or_not}
use Rattle.line_reader.proofs.has_room.Goals as goal

pub returns : goal.returns
returns c =
    let v = c.args.value in
    let d = c.args.digit in
    ⊎_elim (λ (b : v * 10 + d < 2 ^ 64). rw (lt-ltb _ _ b) (le-leb v ((18_446_744_073_709_551_615 - d) / 10) (omega (arith, c.requires))))
    (λ (b : 2 ^ 64 ≤ v * 10 + d). rw (le-ltb _ _ b) (lt-leb v ((18_446_744_073_709_551_615 - d) / 10) (omega (arith, c.requires))))
    (below_or_not (v * 10 + d) (2 ^ 64))
