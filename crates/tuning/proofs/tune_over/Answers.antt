-- `tune_over` is right because a set whose other numbers are not allowed has no plan at any TTRT, and of every other one the plain numbers decide.
use mathlib.Core.Path.{◌≡◌, sym, ◌∙◌}
use native.Mathlib.Omega.{arith}
use Rattle.units.proofs.RefusalLaws.{err_some, not_err_none}
use Rattle.sets.specs.Rules.{tau}
use Rattle.plans.specs.Rules.{lost}
use Rattle.tuning.specs.Bounds.{tried_over}
use Rattle.tuning.specs.Tunings.{tuned_over}
use Rattle.tuning.proofs.TriedLaws.{Tunable, judged_tunable, same_over, none_over}
use Rattle.tuning.proofs.tune_over.Goals as goal

pub returns-then-is_err : goal.returns-then-is_err
returns-then-is_err c =
    sym (none_over _ (λ h. err_some c.judge.result (sym c.is_err.ensures.value ∙ c.if-is_err.true) (c.judge.ensures ∙ (judged_tunable _).1 h)) _ _ _)

pub tried_over-requires : goal.tried_over-requires
tried_over-requires c =
    let is_tunable : Tunable c.args.t = (judged_tunable _).0 (sym c.judge.ensures ∙ not_err_none c.judge.result (sym c.is_err.ensures.value ∙ c.if-is_err.false)) in
    let h = is_tunable in
    record { few = h.count.1; grid = h.numbers.header.grid.1; lost = omega (arith, c.lost_time.ensures.small) }

pub returns : goal.returns
returns c =
    let is_tunable : Tunable c.args.t = (judged_tunable _).0 (sym c.judge.ensures ∙ not_err_none c.judge.result (sym c.is_err.ensures.value ∙ c.if-is_err.false)) in
    let args = c.args in
    let t = args.t in
    let τ : c.walk_time-tau.result ≡ tau t = c.walk_time-tau.ensures.sum in
    let l : c.lost_time.result ≡ lost t = c.lost_time.ensures.is in
    let is : tried_over (record { own = t.head.ttrt; grid = t.head.grid; n = t.n; tau = c.walk_time-tau.result; lost = c.lost_time.result }) t.c t.d args.from args.n args.k ≡ tuned_over t args.from args.n args.k =
    rw (τ, l) (same_over t is_tunable args.from args.n args.k) in
    c.tried_over.ensures ∙ is
