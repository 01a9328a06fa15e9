-- `stepped` is right because its body is the definition; no number is above 2^43, so nothing wraps.
use Prim.Native.Nat.{ℕ, ◌+◌, ◌-◌, ◌*◌, ◌/◌, ◌%◌, ◌<◌, min}
use mathlib.Core.Path.{◌≡◌, refl, sym, ◌∙◌}
use native.Mathlib.Omega.{arith}
use native.Mathlib.Nat.{div-eq_of_lt-le}
use Rattle.std.proofs.lemmas.Grind.{div_ceil_times}
use Rattle.units.specs.Grid.{stepped}
use Rattle.units.proofs.SmallLaws.{one_more_lem}
use Rattle.units.proofs.GridLaws.{step_small}
use Rattle.tuning.proofs.stepped.Goals as goal

-- the library's quotient rounded up is the definition's
ceil : (a b : ℕ) → 0 < b → a / b + min 1 (a % b) ≡ (a + (b - 1)) / b
ceil a b some =
    let q = a / b + min 1 (a % b) in
    let bounds = div_ceil_times a b some in
    sym (div-eq_of_lt-le b (omega (arith, bounds.1)) (omega (arith, bounds.0, one_more_lem q b)))

pub returns : goal.returns
returns c =
    let args = c.args in
    let step = c.from-step.result in
    let up : c.div_ceil.result ≡ (args.need + (args.shares * step - 1)) / (args.shares * step) = c.div_ceil.ensures ∙ ceil args.need (args.shares * step) (omega arith) in
    let is : c.div_ceil.result * step ≡ stepped args.grid args.shares args.need = rw (up, c.from-step.ensures) refl in
    record { is = is; small = rw is (step_small args.grid args.shares args.need) }
