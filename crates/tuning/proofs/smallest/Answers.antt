-- `smallest` is right because its branch is the definition's own: D is m·TTRT and the remainder, so (m + 1)·TTRT − D is TTRT less the remainder. m·α is at most D, so nothing wraps.
use Prim.Native.Nat.{ℕ, ◌-◌, ◌/◌, ◌%◌, ◌<◌}
use mathlib.Core.Path.{◌≡◌, sym, ◌∙◌}
use native.Mathlib.Omega.{arith}
use native.Mathlib.Nat.{mod-lt, div-add-mod'}
use Rattle.units.proofs.SmallLaws.{one_more_lem}
use Rattle.units.specs.Vectors.{whole_rotations}
use Rattle.plans.specs.Rules.{alpha}
use Rattle.plans.specs.Planned.{smallest_with, smallest_for}
use Rattle.plans.proofs.PlanLaws.{smallest_whole, smallest_part}
use Rattle.tuning.proofs.smallest.Goals as goal

-- α is TTRT less the remainder
left : (ttrt d : ℕ) → 0 < ttrt → ttrt - d % ttrt ≡ alpha ttrt d
left ttrt d some = omega (arith, one_more_lem (d / ttrt) ttrt, div-add-mod' d ttrt, mod-lt d some)

pub returns-then-longest-whole : goal.returns-then-longest-whole
returns-then-longest-whole c =
    let args = c.args in
    let m : c.from-whole.result ≡ whole_rotations args.ttrt args.d = c.from-whole.ensures in
    let part : c.from-alpha.result ≡ alpha args.ttrt args.d = c.from-alpha.ensures ∙ left args.ttrt args.d c.requires.0 in
    let said : smallest_with args.grid c.from-whole.result c.from-alpha.result c.from-longest.result ≡ smallest_for args.grid args.ttrt args.c args.d = rw (m, part, c.from-longest.ensures) in
    let whole = smallest_whole args.grid c.from-whole.result c.from-alpha.result c.from-longest.result (omega arith) in
    record { is = c.stepped.ensures.is ∙ sym whole ∙ said; small = omega (arith, c.stepped.ensures.small, c.requires.1) }

pub returns-else-longest-whole : goal.returns-else-longest-whole
returns-else-longest-whole c =
    let args = c.args in
    let m : c.from-whole.result ≡ whole_rotations args.ttrt args.d = c.from-whole.ensures in
    let part : c.from-alpha.result ≡ alpha args.ttrt args.d = c.from-alpha.ensures ∙ left args.ttrt args.d c.requires.0 in
    let said : smallest_with args.grid c.from-whole.result c.from-alpha.result c.from-longest.result ≡ smallest_for args.grid args.ttrt args.c args.d = rw (m, part, c.from-longest.ensures) in
    let last = smallest_part args.grid c.from-whole.result c.from-alpha.result c.from-longest.result (omega arith) in
    record { is = c.stepped-else-longest-whole.ensures.is ∙ sym last ∙ said; small = omega (arith, c.stepped-else-longest-whole.ensures.small, c.requires.1) }
