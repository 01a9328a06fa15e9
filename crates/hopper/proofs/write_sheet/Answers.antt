-- `write_sheet` is right because it goes by the number of the request: refused, nothing is written; else the sheet of the list's set is.
use mathlib.Core.Path.{sym, ap, ◌∙◌}
use Rattle.sheets.specs.declared.ReadRequest.{ReadRequest}
use Rattle.hopper.proofs.RequestLaws.{request_number, request_set, sheet_refused, sheet_given}
use Rattle.hopper.proofs.write_sheet.Goals as goal

pub returns-then-asked-ne-ACCEPTED : goal.returns-then-asked-ne-ACCEPTED
returns-then-asked-ne-ACCEPTED c =
    let number = ap (λ (r : ReadRequest). r.number) c.request_of-asked.ensures ∙ request_number _ in
    rw number (sheet_refused _ _ (λ e. c.if-asked-ne-ACCEPTED.true (number ∙ e)))

pub returns : goal.returns
returns c =
    let number = ap (λ (r : ReadRequest). r.number) c.request_of-asked.ensures ∙ request_number _ in
    let none = sym number ∙ c.if-asked-ne-ACCEPTED.false in
    let set = ap (λ (r : ReadRequest). r.set) c.request_of-asked.ensures ∙ request_set _ none in
    sheet_given _ _ _ _ none (rw set at c.write_request.ensures)
