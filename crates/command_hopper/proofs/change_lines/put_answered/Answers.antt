-- `put_answered` is right because it puts the refusal or the plan by the number.
use mathlib.Core.Path.{sym}
use native.Mathlib.Omega.{arith}
use borrow.Author.Rules.{rules}
use Rattle.text.proofs.TextLaws.{refused_short, text_accepted, text_refused}
use Rattle.text.proofs.PageLaws.{puts, printed}
use Rattle.command_hopper.specs.Refits.{hopper_text}
use Rattle.command_hopper.proofs.change_lines.put_answered.Goals as goal

pub returns-then-number-ne-ACCEPTED : goal.returns-then-number-ne-ACCEPTED
returns-then-number-ne-ACCEPTED c =
    let begins = c.new-page.ensures.begins in
    let put = puts c.put_refused.ensures (rw (begins.now, begins.at) (omega (arith, c.requires))) (refused_short _) in
    let done = printed begins put c.length.ensures (sym (text_refused c.args.number (hopper_text c.args.train.list) c.if-number-ne-ACCEPTED.true)) c.requires (omega arith) in
    search (rules, done)

pub returns : goal.returns
returns c =
    rw (text_accepted _ _ c.if-number-ne-ACCEPTED.false) c.hopper_text-said.ensures.printed
