-- `smallest` is right because its branch is the definition's own; m·α is at most D, so nothing wraps.
use Prim.Native.Nat.{ℕ, ◌+◌}
use mathlib.Core.Path.{◌≡◌, sym, ◌∙◌}
use native.Mathlib.Omega.{arith}
use Rattle.units.specs.Small.{UpTo}
use Rattle.plans.specs.Planned.{smallest_with, smallest_for}
use Rattle.plans.proofs.PlanLaws.{smallest_small, smallest_whole, smallest_part}
use Rattle.plans.proofs.smallest.Goals as goal

bounded : (g ttrt c d r : ℕ) → r ≡ smallest_for g ttrt c d → UpTo (c + ttrt + g) (smallest_for g ttrt c d) r
bounded g ttrt c d r is = record { is = is; small = rw is (smallest_small g ttrt c d) }

pub returns-then-longest-turns : goal.returns-then-longest-turns
returns-then-longest-turns c =
    let args = c.args in
    let m = c.rotations-turns.result.whole in
    let α = c.rotations-turns.result.alpha in
    let said : smallest_with args.grid m α c.from-longest.result ≡ smallest_for args.grid args.ttrt args.c args.d = rw (c.rotations-turns.ensures.whole, c.rotations-turns.ensures.alpha, c.from-longest.ensures) in
    let whole = smallest_whole args.grid m α c.from-longest.result (omega arith) in
    bounded _ _ _ _ _ (c.stepped.ensures.is (omega arith) (omega arith) ∙ sym whole ∙ said)

pub returns-else-longest-turns : goal.returns-else-longest-turns
returns-else-longest-turns c =
    let args = c.args in
    let m = c.rotations-turns.result.whole in
    let α = c.rotations-turns.result.alpha in
    let said : smallest_with args.grid m α c.from-longest.result ≡ smallest_for args.grid args.ttrt args.c args.d = rw (c.rotations-turns.ensures.whole, c.rotations-turns.ensures.alpha, c.from-longest.ensures) in
    let part = smallest_part args.grid m α c.from-longest.result (omega arith) in
    bounded _ _ _ _ _ (c.stepped-else-longest-turns.ensures.is (omega arith) (omega arith) ∙ sym part ∙ said)
