-- `show_start` is right because it reads the plan at the start, and looks for a whole record behind it.
use mathlib.Core.Path.{◌≡◌, sym, ap, ◌∙◌}
use Rattle.log_stream.specs.declared.Gathered.{Gathered}
use Rattle.sheets.specs.declared.PlanStart.{PlanStart}
use Rattle.text.proofs.TextLaws.{not_printed, says_as}
use Rattle.command_show_log.specs.LogShown.{show_from}
use Rattle.command_show_log.specs.declared.Showing.{Showing}
use Rattle.command_show_log.proofs.ShowLaws.{printed_as, number_large, number_small, log_same, number_plain, number_log, head_plain, head_log}
use Rattle.command_show_log.proofs.show_start.Goals as goal

pub returns-then-page-lt-PAGE_SIZE : goal.returns-then-page-lt-PAGE_SIZE
returns-then-page-lt-PAGE_SIZE c =
    let kept : let made : Showing = record { gathered = c.begin.result; number = c.read_start-start.result.number } in
    made ≡ show_from c.args.head.now = ap (λ (v : Gathered). record { gathered = v; number = c.read_start-start.result.number }) c.begin.ensures
    ∙ ap (λ (p : PlanStart). record { gathered = _; number = p.number }) c.read_start-start.ensures in
    let log = log_same _ _ _ c.read_start-start.ensures c.log_entry-first.ensures in
    let place = ap (λ (p : PlanStart). p.at) c.read_start-start.ensures in
    record { log = log; at = place; showing = kept; shown = not_printed c.if-page-lt-PAGE_SIZE.true; number = number_small _ _ c.if-page-lt-PAGE_SIZE.true }

pub show_plain-plain-requires : goal.show_plain-plain-requires
show_plain-plain-requires c =
    (c.if-page-lt-PAGE_SIZE.false, ap (λ (p : PlanStart). p.passed) c.read_start-start.ensures)

pub returns-then-not-log : goal.returns-then-not-log
returns-then-not-log c =
    let kept : let made : Showing = record { gathered = c.begin.result; number = c.read_start-start.result.number } in
    made ≡ show_from c.args.head.now = ap (λ (v : Gathered). record { gathered = v; number = c.read_start-start.result.number }) c.begin.ensures
    ∙ ap (λ (p : PlanStart). record { gathered = _; number = p.number }) c.read_start-start.ensures in
    let log = log_same _ _ _ c.read_start-start.ensures c.log_entry-first.ensures in
    let place = ap (λ (p : PlanStart). p.at) c.read_start-start.ensures in
    let none = sym log ∙ c.if-not-log.true in
    let said = says_as c.show_plain-plain.ensures (head_plain _ none) (number_plain _ none) in
    record { log = log; at = place; showing = kept; shown = said.printed; number = said.number }

pub show_plan-length-requires : goal.show_plan-length-requires
show_plan-length-requires c =
    c.if-page-lt-PAGE_SIZE.false

pub returns : goal.returns
returns c =
    let kept : let made : Showing = record { gathered = c.begin.result; number = c.read_start-start.result.number } in
    made ≡ show_from c.args.head.now = ap (λ (v : Gathered). record { gathered = v; number = c.read_start-start.result.number }) c.begin.ensures
    ∙ ap (λ (p : PlanStart). record { gathered = _; number = p.number }) c.read_start-start.ensures in
    let log = log_same _ _ _ c.read_start-start.ensures c.log_entry-first.ensures in
    let place = ap (λ (p : PlanStart). p.at) c.read_start-start.ensures in
    let some = sym log ∙ c.if-not-log.false in
    record {
      log = log;
      at = place;
      showing = kept;
      shown = printed_as c.show_plan-length.ensures (head_log _ _ some c.read_start-start.ensures);
      number = number_large _ c.if-page-lt-PAGE_SIZE.false (number_log _ some);
    }
