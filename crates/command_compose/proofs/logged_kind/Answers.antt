-- `logged_kind` is right because it asks the plan's judgement.
use mathlib.Core.Path.{◌≡◌, refl, sym, ◌∙◌}
use mathlib.Core.Bool.{true, false}
use lib.Dec.{eqb}
use Rattle.units.proofs.RefusalLaws.{ok_none, not_ok_some}
use Rattle.plans.specs.Planned.{judged_plan}
use borrow.Author.Tests.{eq-eqb, ne_eqb}
use Rattle.command_compose.specs.Compose.{logged_kind}
use Rattle.command_compose.proofs.logged_kind.Goals as goal

pub returns-then-is_ok : goal.returns-then-is_ok
unfolding logged_kind
returns-then-is_ok c =
    let fits : eqb (judged_plan c.args.t c.args.a) 0 ≡ true = eq-eqb _ 0 (sym c.judge_plan.ensures ∙ ok_none c.judge_plan.result (sym c.is_ok.ensures.value ∙ c.if-is_ok.true)) in
    rw fits refl

pub returns : goal.returns
unfolding logged_kind
returns c =
    let broken : eqb (judged_plan c.args.t c.args.a) 0 ≡ false = ne_eqb _ 0 (λ e. not_ok_some c.judge_plan.result (sym c.is_ok.ensures.value ∙ c.if-is_ok.false) (c.judge_plan.ensures ∙ e)) in
    rw broken refl
