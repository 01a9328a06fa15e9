-- `put_answer` is right because it puts what differs where the log's plan is another one, and else what was found.
use mathlib.Core.Path.{refl, sym, ◌∙◌}
use native.Mathlib.Omega.{arith}
use borrow.Author.Rules.{rules}
use Rattle.text.proofs.PageLaws.{printed}
use Rattle.command_inspect_plan.proofs.AnswerLaws.{answered_another, answered_found}
use Rattle.command_inspect_plan.proofs.put_answer.Goals as goal

pub returns-then-is_another : goal.returns-then-is_another
returns-then-is_another c =
    let done = printed c.new-page.ensures.begins c.put_another.ensures c.length.ensures refl c.requires.1 (omega arith) in
    answered_another (sym c.is_another.ensures ∙ c.if-is_another.true) (search (rules, done))

pub returns : goal.returns
returns c =
    answered_found (sym c.is_another.ensures ∙ c.if-is_another.false) c.put_finding.ensures
