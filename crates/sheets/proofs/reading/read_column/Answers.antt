-- `read_column` is right because the places passed hold the numbers of the fields passed.
use Prim.Native.Nat.{ℕ, ◌+◌, ◌*◌}
use mathlib.Core.Path.{◌≡◌, sym, ap, ◌∙◌}
use mathlib.Core.List.{List}
use native.Mathlib.Omega.{arith}
use lib.ListN.{length, take, length-take}
use Rattle.units.specs.Places.{fill}
use Rattle.units.proofs.PlaceLaws.{fill_none, fill_then, fill_inside}
use Rattle.fields.specs.Bytes.{number_at}
use Rattle.units.proofs.FrontLaws.{front_filled}
use Rattle.sheets.proofs.reading.read_column.Goals as goal

pub loop-i-init : goal.loop-i-init
loop-i-init c =
    sym (fill_none _ _)

pub loop-i-preserved : goal.loop-i-preserved
loop-i-preserved c =
    fill_then c.loop-i.i _ _ _ _ c.loop-i.invariant c.number_at.ensures

pub returns : goal.returns
returns c =
    let args = c.args in
    let f : ℕ → ℕ = λ k. number_at c.args.bs.now (c.args.from + c.args.step * k) in
    let part : List ℕ = take c.args.n c.args.numbers.now in
    let long : length (take c.args.n c.args.numbers.now) ≡ c.args.n = omega (arith, length-take args.n args.numbers.now, c.told-numbers, c.requires.few) in
    let all : c.loop-i.i ≡ c.args.n = omega (arith, long) in
    let filled : c.loop-i.number-items ≡ fill args.n f part = c.loop-i.invariant ∙ ap (λ (k : ℕ). fill k f part) all in
    front_filled args.n f args.numbers.now _ (omega (arith, c.told-numbers, c.requires.few)) (c.loop-i.auto.number-items ∙ long)
    (λ i l. rw filled (fill_inside args.n f part i l (omega (arith, long))))
