-- `put_text` is right because what was found is put into an empty page.
use mathlib.Core.Path.{refl}
use native.Mathlib.Omega.{arith}
use borrow.Author.Rules.{rules}
use Rattle.text.proofs.TextLaws.{not_printed}
use Rattle.text.proofs.PageLaws.{printed}
use Rattle.command_inspect.proofs.put_text.Goals as goal

pub returns-then-page-lt-PAGE_SIZE : goal.returns-then-page-lt-PAGE_SIZE
returns-then-page-lt-PAGE_SIZE c =
    not_printed c.if-page-lt-PAGE_SIZE.true

pub returns : goal.returns
returns c =
    let done = printed c.new-page.ensures.begins c.put_said.ensures c.length.ensures refl c.if-page-lt-PAGE_SIZE.false (omega arith) in
    search (rules, done)
