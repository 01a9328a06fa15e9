-- `show_plain` is right because it goes by whether a plan's fields have passed, as the definition does.
use mathlib.Core.Path.{sym, ap, ◌∙◌}
use native.Mathlib.Omega.{arith}
use lib.ListN.{length}
use borrow.Author.Rules.{rules}
use Rattle.text.proofs.TextLaws.{refused_short, says_as, text_accepted, text_refused}
use Rattle.text.proofs.PageLaws.{puts, says}
use Rattle.command_show_log.proofs.ShowLaws.{printed_as, number_large, plain_ever, plain_read, number_ever, number_read}
use Rattle.command_show_log.proofs.show_plain.Goals as goal

pub returns-then-not-passed : goal.returns-then-not-passed
returns-then-not-passed c =
    let none = sym c.requires.1 ∙ c.if-not-passed.true in
    says_as c.show_text.ensures (plain_ever _ none) (number_ever _ none)

pub returns-then-told-ne-ACCEPTED : goal.returns-then-told-ne-ACCEPTED
returns-then-told-ne-ACCEPTED c =
    let all = sym c.requires.1 ∙ c.if-not-passed.false in
    let begins = c.new-page.ensures.begins in
    let refused = puts c.put_refused.ensures (omega (arith, ap length begins.now, begins.at, c.requires.0)) (refused_short _) in
    let text = sym (text_refused _ _ c.if-told-ne-ACCEPTED.true) ∙ plain_read _ _ all c.read_log-log.ensures in
    let done = says begins refused c.length.ensures text (number_read _ _ all c.read_log-log.ensures) c.requires.0 (omega arith) in
    search (rules, done)

pub returns : goal.returns
returns c =
    let all = sym c.requires.1 ∙ c.if-not-passed.false in
    record {
      printed = printed_as c.plan_text-length.ensures (sym (text_accepted _ _ c.if-told-ne-ACCEPTED.false) ∙ plain_read _ _ all c.read_log-log.ensures);
      number = number_large _ c.requires.0 (number_read _ _ all c.read_log-log.ensures);
    }
