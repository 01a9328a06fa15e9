-- `place_of` is right because each turn comes by one more field, and a version stands there.
use mathlib.Core.Path.{◌≡◌, sym, ap, ◌∙◌}
use native.Mathlib.Omega.{arith}
use Rattle.versions.specs.Area.{place_of}
use Rattle.versions.proofs.AreaLaws.{FieldHere, kept_here, place_none, place_next}
use Rattle.versions.proofs.area.place_of.Goals as goal

pub loop-init : goal.loop-init
loop-init c =
    sym (place_none _)

pub overflow_add-at : goal.overflow_add-at
overflow_add-at c =
    let here : FieldHere c.args.area.now c.loop.at = let bs = c.args.area.now in
    rw c.loop.invariant (kept_here bs 16 c.loop.counter (omega arith)).field in
    omega (arith, here.inside)

pub size_at-requires : goal.size_at-requires
size_at-requires c =
    let here : FieldHere c.args.area.now c.loop.at = let bs = c.args.area.now in
    rw c.loop.invariant (kept_here bs 16 c.loop.counter (omega arith)).field in
    omega (arith, here.start)

pub overflow_add-at-in-loop : goal.overflow_add-at-in-loop
overflow_add-at-in-loop c =
    let here : FieldHere c.args.area.now c.loop.at = let bs = c.args.area.now in
    rw c.loop.invariant (kept_here bs 16 c.loop.counter (omega arith)).field in
    omega (arith, here.inside, c.size_at.ensures.is)

pub loop-preserved : goal.loop-preserved
loop-preserved c =
    let bs = c.args.area.now in
    rw (c.size_at.ensures.is, c.loop.invariant) (sym (place_next bs c.loop.counter))

pub returns : goal.returns
returns c =
    let all : c.loop.counter ≡ c.args.k = omega arith in
    c.loop.invariant ∙ ap (place_of _) all
