-- `inspect_text` is right because it puts the refusal of the plan sheet, and else the answer on the log.
use mathlib.Core.Path.{refl}
use native.Mathlib.Omega.{arith}
use borrow.Author.Rules.{rules}
use Rattle.text.proofs.PageLaws.{printed}
use Rattle.command_diff.proofs.AnswerLaws.{few_read}
use Rattle.command_inspect_plan.proofs.AnswerLaws.{answered_nothing, answered_refused, answered_log}
use Rattle.command_inspect_plan.proofs.inspect_text.Goals as goal

pub returns-then-page-lt-PAGE_SIZE : goal.returns-then-page-lt-PAGE_SIZE
returns-then-page-lt-PAGE_SIZE c =
    answered_nothing c.if-page-lt-PAGE_SIZE.true

pub returns-then-read-ne-ACCEPTED : goal.returns-then-read-ne-ACCEPTED
returns-then-read-ne-ACCEPTED c =
    let large = c.if-page-lt-PAGE_SIZE.false in
    let done = printed c.new-page.ensures.begins c.put_refused.ensures c.length.ensures refl large (omega arith) in
    answered_refused c.read_plan-read.ensures large c.if-read-ne-ACCEPTED.true (search (rules, done))

pub put_answer-requires : goal.put_answer-requires
put_answer-requires c =
    (few_read _ _ c.read_plan-read.ensures, c.if-page-lt-PAGE_SIZE.false)

pub returns : goal.returns
returns c =
    answered_log c.read_plan-read.ensures c.if-page-lt-PAGE_SIZE.false c.if-read-ne-ACCEPTED.false c.put_answer.ensures
