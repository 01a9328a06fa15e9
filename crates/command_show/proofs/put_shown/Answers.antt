-- `put_shown` is right because it reads a request, and a plan where the shape is another.
use mathlib.Core.Path.{ap, ◌∙◌}
use mathlib.Core.Bool.{false}
use native.Mathlib.Omega.{arith}
use Rattle.plans.specs.declared.Alloc.{Alloc}
use Rattle.sheet_text_rules.specs.ShowText.{sheet_text}
use Rattle.sheet_text_rules.proofs.ShowLaws.{request_few, shown_as_plan, shown_request_refused, shown_request, number_as_plan, number_as_request}
use Rattle.text.proofs.TextLaws.{refused_short}
use Rattle.text.proofs.PageLaws.{puts, puts_as}
use Rattle.command_show.proofs.put_shown.Goals as goal

pub returns-then-number-eq-WRONG_SHAPE-clause-text : goal.returns-then-number-eq-WRONG_SHAPE-clause-text
returns-then-number-eq-WRONG_SHAPE-clause-text c =
    puts_as c.put_plan.ensures.text (shown_as_plan _ _ c.read_request-request.ensures c.if-number-eq-WRONG_SHAPE.true) (omega arith)

pub returns-then-number-eq-WRONG_SHAPE-clause-number : goal.returns-then-number-eq-WRONG_SHAPE-clause-number
returns-then-number-eq-WRONG_SHAPE-clause-number c =
    c.put_plan.ensures.number ∙ number_as_plan _ _ c.read_request-request.ensures c.if-number-eq-WRONG_SHAPE.true

pub returns-then-number-ne-ACCEPTED-clause-text : goal.returns-then-number-ne-ACCEPTED-clause-text
returns-then-number-ne-ACCEPTED-clause-text c =
    puts_as (puts c.put_refused.ensures (omega (arith, c.requires)) (refused_short _))
    (shown_request_refused _ _ c.read_request-request.ensures c.if-number-eq-WRONG_SHAPE.false c.if-number-ne-ACCEPTED.true) (omega arith)

pub returns-then-number-ne-ACCEPTED-clause-number : goal.returns-then-number-ne-ACCEPTED-clause-number
returns-then-number-ne-ACCEPTED-clause-number c =
    number_as_request _ _ c.read_request-request.ensures c.if-number-eq-WRONG_SHAPE.false

pub put_sheet-requires : goal.put_sheet-requires
put_sheet-requires c =
    (request_few _ _ c.read_request-request.ensures, c.requires)

pub returns-clause-text : goal.returns-clause-text
returns-clause-text c =
    puts_as c.put_sheet.ensures
    (ap (λ (a : Alloc). sheet_text false c.read_request-request.result.set a) c.blank_alloc.ensures ∙ shown_request _ _ c.read_request-request.ensures c.if-number-eq-WRONG_SHAPE.false c.if-number-ne-ACCEPTED.false)
    (omega arith)

pub returns-clause-number : goal.returns-clause-number
returns-clause-number c =
    number_as_request _ _ c.read_request-request.ensures c.if-number-eq-WRONG_SHAPE.false
