-- `least_time` is right because its body is the definition; X is at most q·S, which 64 bits hold.
use Prim.Native.Nat.{◌-◌, ◌<◌}
use mathlib.Core.Path.{◌≡◌, refl, sym, ◌∙◌}
use native.Mathlib.Omega.{arith}
use Rattle.units.specs.Vectors.{whole_rotations}
use Rattle.fddi.specs.Rules.{rest}
use Rattle.fddi.proofs.Laws.{time_none, time_some}
use Rattle.fddi.proofs.least_time.Goals as goal

pub returns-then-q-eq0 : goal.returns-then-q-eq0
returns-then-q-eq0 c =
    let args = c.args in
    let rotations : c.whole-q.result ≡ whole_rotations args.ttrt args.d = c.whole-q.ensures.is ∙ rw (c.from-long.ensures, c.from-rotation.ensures) refl in
    sym (time_none _ (rest args.ttrt args.d - args.away) args.s (sym rotations ∙ c.if-q-eq0.true))

pub returns : goal.returns
returns c =
    let args = c.args in
    let rotations : c.whole-q.result ≡ whole_rotations args.ttrt args.d = c.whole-q.ensures.is ∙ rw (c.from-long.ensures, c.from-rotation.ensures) refl in
    let some : 0 < whole_rotations args.ttrt args.d = rw (← rotations) (omega arith) in
    rw (c.min.ensures, c.saturating_sub.ensures, c.saturating_sub-rest.ensures, rotations, c.from-own.ensures, c.from-long.ensures, c.from-rotation.ensures)
    (sym (time_some _ (rest args.ttrt args.d - args.away) args.s some))
