-- `change` is right because the places passed hold what was made of them, and every other is as it was.
use Rattle.std.proofs.Common.{◌≡◌, ◌∙◌, ap, ℕ, min, sym, arith}
use Rattle.units.specs.Places.{at, fill}
use Rattle.units.proofs.PlaceLaws.{fill_none, fill_then, fill_outside}
use Rattle.arrays.proofs.change.Goals as goal

pub loop-i-init : goal.loop-i-init
loop-i-init g c f made =
    sym (fill_none _ _)

pub loop-i-preserved : goal.loop-i-preserved
loop-i-preserved g c f made =
    let xs = c.args.xs.now in
    let i = c.loop-i.i in
    let to = λ (j : ℕ). f j (at xs j) in
    let was : at c.loop-i.xs i ≡ at xs i = ap (λ ys. at ys i) (c.loop-i.invariant f made) ∙ fill_outside i to xs i (omega arith) in
    fill_then i to xs _ _ (c.loop-i.invariant f made) (made _ _ _ (omega arith) c.made.ensures ∙ ap (f i) was)

pub returns : goal.returns
returns g c f made =
    let all : c.loop-i.i ≡ min c.args.n 128 = omega arith in
    c.loop-i.invariant f made ∙ ap (λ k. fill k (λ j. f j (at c.args.xs.now j)) c.args.xs.now) all
