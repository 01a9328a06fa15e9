-- `grounds_of` is right because S is planning's own, X that of the rule, and α TTRT less what D / TTRT leaves over.
use Prim.Native.Nat.{◌<◌}
use mathlib.Core.Path.{◌≡◌, sym, ◌∙◌}
use native.Mathlib.Omega.{arith}
use Rattle.plans.specs.Rules.{alpha}
use Rattle.plans.specs.Planned.{smallest_for}
use Rattle.reasons.specs.Grounds.{most_number}
use Rattle.reasons.proofs.GroundLaws.{grounds_say, grounds_none, alpha_is}
use Rattle.reasons.proofs.grounds_of.Goals as goal

pub returns-in_default : goal.returns-in_default
returns-in_default c =
    let large : most_number < c.smallest-least.result = omega (arith, c.in_default.ensures) in
    c.no_grounds.ensures ∙ sym (grounds_none _ _ _ _ (omega (arith, large)))

pub returns : goal.returns
returns c =
    let args = c.args in
    let both = c.divide_narrow-both in
    let s : c.in-Ok.smallest ≡ smallest_for args.grid args.ttrt args.c args.d = c.in-Ok.ensures.1 ∙ c.smallest-least.ensures.is in
    let lacking : c.from-alpha.result ≡ alpha args.ttrt args.d =
    c.from-alpha.ensures ∙ c.saturating_sub.ensures ∙ alpha_is args.ttrt args.d both.result.quotient both.result.remainder both.ensures in
    rw (lacking, both.ensures.whole, c.least_time.ensures, c.least_time-2.ensures, c.saturating_sub-next.ensures, s)
    (sym (grounds_say args.grid args.ttrt args.c args.d (omega (arith, c.in-Ok.ensures.0, c.smallest-least.ensures.is))))
