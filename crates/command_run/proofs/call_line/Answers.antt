-- `call_line` is right because it goes by what the line is, as the definition does.
use mathlib.Core.Path.{◌≡◌, sym, ap, ◌∙◌}
use mathlib.Core.Bool.{true, false}
use Rattle.rings.specs.Steps.{visited}
use Rattle.rings.specs.HandingIn.{handed_in}
use Rattle.line_reader.specs.Scan.{is_empty_line}
use Rattle.command_run.specs.Calls.{is_visit}
use Rattle.command_run.proofs.RunLaws.{called_empty, called_visit, called_message, called_switched}
use Rattle.command_run.proofs.call_line.Goals as goal

pub returns-then-is_empty_line : goal.returns-then-is_empty_line
returns-then-is_empty_line c =
    called_empty _ _ (sym c.is_empty_line.ensures ∙ c.if-is_empty_line.true)

pub ask_in-requires : goal.ask_in-requires
ask_in-requires c =
    let a_visit_lem : is_visit c.args.s ≡ true = sym c.is_visit.ensures ∙ c.if-is_visit.true in
    a_visit_lem

pub returns-then-is_visit : goal.returns-then-is_visit
returns-then-is_visit c =
    let some_line : is_empty_line c.args.s ≡ false = sym c.is_empty_line.ensures ∙ c.if-is_empty_line.false in
    let a_visit_lem : is_visit c.args.s ≡ true = sym c.is_visit.ensures ∙ c.if-is_visit.true in
    called_visit c.args.ring c.args.s _ some_line a_visit_lem (c.visit-visited.ensures ∙ ap (visited c.args.ring) c.ask_in.ensures)

pub returns-then-is_message : goal.returns-then-is_message
returns-then-is_message c =
    let some_line : is_empty_line c.args.s ≡ false = sym c.is_empty_line.ensures ∙ c.if-is_empty_line.false in
    let no_visit : is_visit c.args.s ≡ false = sym c.is_visit.ensures ∙ c.if-is_visit.false in
    called_message c.args.ring c.args.s _ some_line no_visit (sym c.is_message.ensures ∙ c.if-is_message.true)
    (c.hand_in-held.ensures ∙ ap (handed_in c.args.ring) c.message_in.ensures)

pub returns : goal.returns
returns c =
    let some_line : is_empty_line c.args.s ≡ false = sym c.is_empty_line.ensures ∙ c.if-is_empty_line.false in
    let no_visit : is_visit c.args.s ≡ false = sym c.is_visit.ensures ∙ c.if-is_visit.false in
    c.switch_line.ensures ∙ called_switched _ _ some_line no_visit (sym c.is_message.ensures ∙ c.if-is_message.false)
