-- `counted` is right because each number is the definition's.
use Prim.Native.Nat.{◌+◌, min}
use mathlib.Core.Path.{◌≡◌, refl}
use native.Mathlib.Omega.{arith}
use Rattle.tuning.specs.Tunings.{counted}
use Rattle.tuning.proofs.counted.Goals as goal

pub returns : goal.returns
unfolding counted
returns c =
    let count : c.min.result ≡ min (c.args.k.count + 1) 1_000_000 = omega arith in
    rw (
      c.chosen-5.ensures,
      c.chosen-4.ensures,
      c.chosen-3.ensures,
      c.chosen-2.ensures,
      c.chosen.ensures,
      c.from-4.ensures,
      c.from-3.ensures,
      c.from-2.ensures,
      c.from.ensures,
      count,
    ) refl
