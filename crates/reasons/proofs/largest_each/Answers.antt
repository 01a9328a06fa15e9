-- `largest_each` is right because the places passed hold the largest C: a station's own S and what is spare are what the others leave to it.
use Prim.Native.Nat.{ℕ, ◌+◌, ◌<◌}
use mathlib.Core.Path.{◌≡◌, sym, ap, ◌∙◌}
use mathlib.Core.List.{List}
use native.Mathlib.Omega.{arith}
use Rattle.units.specs.Places.{at}
use Rattle.units.proofs.PlaceLaws.{fill_none, fill_then}
use Rattle.sets.proofs.SetLaws.{allowed}
use Rattle.reasons.specs.Rooms.{largest_with}
use Rattle.reasons.proofs.RoomLaws.{roomy_left, roomy_within, roomy_fits, rooms_say}
use Rattle.reasons.proofs.PlanningLaws.{few}
use Rattle.reasons.proofs.largest_each.Goals as goal

pub loop-i-init : goal.loop-i-init
loop-i-init c =
    sym (fill_none _ _)

pub largest_c-largest-requires : goal.largest_c-largest-requires
largest_c-largest-requires c =
    let l : c.loop-i.i < c.args.t.now.n = omega arith in (
      ((allowed c.args.t.now).0 c.requires.plannable.0).1.0.header.ttrt.0,
      rw c.smallest-own.ensures.is (roomy_within c.args.t.now c.args.spare c.requires c.loop-i.i l),
    )

pub loop-i-preserved : goal.loop-i-preserved
loop-i-preserved c =
    let t = c.args.t.now in
    let i = c.loop-i.i in
    let l : i < t.n = omega arith in
    let left = ap (λ (s : ℕ). s + c.args.spare) c.smallest-own.ensures.is ∙ roomy_left t c.args.spare c.requires i l in
    fill_then _ _ _ _ _ c.loop-i.invariant
    (c.largest_c-largest.ensures ∙ ap (largest_with t.head.grid t.head.ttrt (at t.d i)) left)

pub returns : goal.returns
returns c =
    let t = c.args.t.now in
    let end : c.loop-i.i ≡ t.n = omega (arith, few t c.requires.plannable) in
    ap (λ (s : List ℕ). record { c = s }) (c.loop-i.invariant ∙ rw end) ∙ sym (rooms_say t (roomy_fits t c.args.spare c.requires))
