-- `write_draft` is right because it writes what the lines make, if they make a sheet.
use mathlib.Core.Path.{refl, sym, ◌∙◌}
use mathlib.Core.List.{[]}
use Rattle.command_compose.proofs.ComposeLaws.{wrote_no_draft, wrote_plan_draft, wrote_request_draft}
use Rattle.command_compose.proofs.write_draft.Goals as goal

pub returns-then-not-is_whole : goal.returns-then-not-is_whole
returns-then-not-is_whole c =
    wrote_no_draft _ _ [] _ (sym c.is_whole.ensures ∙ c.if-not-is_whole.true) refl

pub returns-then-d-ge2 : goal.returns-then-d-ge2
returns-then-d-ge2 c =
    wrote_plan_draft _ _ _ _ (sym c.is_whole.ensures ∙ c.if-not-is_whole.false) c.if-d-ge2.true
    c.write_plan.ensures c.write_plan.auto.out

pub returns : goal.returns
returns c =
    wrote_request_draft _ _ _ _ (sym c.is_whole.ensures ∙ c.if-not-is_whole.false) c.if-d-ge2.false
    c.write_request.ensures c.write_request.auto.out
