-- `deadlines_fit` is right because its flag is the rule over the stations passed, and what is away from a station is the time lost and the others' S.
use Prim.Native.Nat.{ℕ, ◌+◌, min}
use mathlib.Core.Path.{◌≡◌, refl, sym, ap, ◌∙◌}
use native.Mathlib.Omega.{arith}
use lib.Dec.{leb}
use Rattle.units.specs.Places.{at}
use Rattle.units.proofs.PlaceLaws.{all_then, all_none}
use Rattle.fddi.specs.Rules.{others, least_time}
use Rattle.fddi.proofs.Laws.{others_own}
use Rattle.fddi.proofs.deadlines_fit.Goals as goal
use Rattle.fddi.proofs.deadlines_fit.Invariants.{kept}

pub loop-i-init : goal.loop-i-init
loop-i-init c =
    sym (all_none _)

pub loop-i-preserved : goal.loop-i-preserved
loop-i-preserved c =
    let args = c.args in
    let i = c.loop-i.i in
    let away : c.saturating_sub-away.result ≡ args.lost + others (min args.n 128) (at args.s.now) i = omega (arith, others_own (min args.n 128) (at args.s.now) i (omega arith)) in
    let time : c.least_time.result ≡ least_time args.ttrt (at args.d.now i) (args.lost + others (min args.n 128) (at args.s.now) i) (at args.s.now i) =
    c.least_time.ensures ∙ ap (λ (away : ℕ). least_time args.ttrt (at args.d.now i) away (at args.s.now i)) away in
    let one : leb c.from-in-loop-i.result c.least_time.result ≡ kept args.n args.ttrt args.lost args.c.now args.d.now args.s.now i = rw (c.from-in-loop-i.ensures, time) refl in
    all_then _ _ _ _ c.loop-i.invariant one
