-- `put_unread` is right because the line is put into an empty page.
use mathlib.Core.Path.{refl}
use native.Mathlib.Omega.{arith}
use borrow.Author.Rules.{rules}
use Rattle.text.proofs.TextLaws.{unread_short}
use Rattle.text.proofs.PageLaws.{puts, printed}
use Rattle.command_hopper.proofs.change_lines.put_unread.Goals as goal

pub returns : goal.returns
returns c =
    let begins = c.new-page.ensures.begins in
    let put = puts c.put_unread.ensures (rw (begins.now, begins.at) (omega (arith, c.requires))) (unread_short _) in
    let done = printed begins put c.length.ensures refl c.requires (omega arith) in
    search (rules, done)
