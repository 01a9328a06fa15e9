-- `before_in` is right because a difference stops at 0.
use Prim.Native.Nat.{ℕ, ◌-◌}
use mathlib.Core.Path.{ap, ◌∙◌}
use Rattle.versions.proofs.AreaLaws.{number_there}
use Rattle.versions.proofs.area.before_in.Goals as goal

pub returns : goal.returns
returns c =
    c.saturating_sub.ensures ∙ ap (λ (k : ℕ). k - 1) (c.number_from.ensures ∙ number_there c.args.area.now 3 c.requires)
