-- `zeros_from` is right because each turn tests one more byte.
use Prim.Native.Nat.{ℕ, ◌+◌, ◌-◌, ◌<◌}
use mathlib.Core.Path.{◌≡◌, sym, ap, ◌∙◌}
use native.Mathlib.Omega.{arith}
use lib.Dec.{eqb}
use lib.ListN.{length}
use Rattle.std.proofs.lemmas.List.Edits.{length-between, get_or-between}
use Rattle.units.specs.Places.{at, all_below}
use Rattle.units.proofs.PlaceLaws.{all_none, all_then}
use Rattle.versions.specs.Area.{zeros_from}
use Rattle.versions.proofs.area.zeros_from.Goals as goal

pub loop-byte-init : goal.loop-byte-init
loop-byte-init c =
    sym (all_none _)

pub loop-byte-preserved : goal.loop-byte-preserved
loop-byte-preserved c =
    let bs = c.args.area.now in
    let from = c.args.from in
    let i = c.loop-byte.byte-index in
    let inside : c.args.from + c.loop-byte.byte-index < length c.args.area.now = omega (arith, length-between bs from (length bs) (omega arith)) in
    all_then i (λ k. eqb (at bs (from + k)) 0) _ _ c.loop-byte.invariant
    (ap (λ (x : ℕ). eqb x 0) (get_or-between bs from (length bs) i 0 inside))

pub returns : goal.returns
unfolding zeros_from
returns c =
    let bs = c.args.area.now in
    let from = c.args.from in
    let all : c.loop-byte.byte-index ≡ length c.args.area.now - c.args.from = omega (arith, length-between bs from (length bs) (omega arith)) in
    c.loop-byte.invariant ∙ ap (λ (n : ℕ). all_below n (λ k. eqb (at bs (from + k)) 0)) all
