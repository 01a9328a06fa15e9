-- `stepped` is right because its body is the definition; one multiple is at most one step too large, so nothing wraps.
use Prim.Native.Nat.{◌*◌}
use mathlib.Core.Path.{◌≡◌, refl}
use mathlib.Core.Logic.{⊎_elim}
use native.Mathlib.Omega.{arith}
use Rattle.units.specs.Grid.{stepped}
use Rattle.units.proofs.GridLaws.{step_small}
use Rattle.quotients.proofs.stepped.Goals as goal

pub overflow_mul-result : goal.overflow_mul-result
overflow_mul-result c =
    let args = c.args in
    let is : c.rounded_up.result * c.from-step.result ≡ stepped args.grid args.shares args.need = rw (c.rounded_up.ensures.is, c.from-step.ensures) refl in
    omega (arith, is, step_small args.grid args.shares args.need)

pub returns : goal.returns
returns c =
    let args = c.args in
    let is : c.rounded_up.result * c.from-step.result ≡ stepped args.grid args.shares args.need = rw (c.rounded_up.ensures.is, c.from-step.ensures) refl in
    record {
      is = λ _ _. is;
      too_large = ⊎_elim (λ a. absurd (omega arith)) (λ b. absurd (omega arith));
      small = rw is (step_small args.grid args.shares args.need);
    }
