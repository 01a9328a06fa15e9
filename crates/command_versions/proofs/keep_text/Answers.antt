-- `keep_text` is right because the page begins with what is put, and the number goes with it.
use mathlib.Core.Path.{◌≡◌, refl}
use native.Mathlib.Omega.{arith}
use borrow.Author.Rules.{rules}
use Rattle.text.proofs.TextLaws.{says_nothing}
use Rattle.text.proofs.PageLaws.{says}
use Rattle.command_versions.proofs.keep_text.Goals as goal

pub returns-then-page-lt-PAGE_SIZE : goal.returns-then-page-lt-PAGE_SIZE
returns-then-page-lt-PAGE_SIZE c =
    says_nothing c.if-page-lt-PAGE_SIZE.true

pub returns : goal.returns
returns c =
    let number = c.args.stored.number in
    let told : number ≡ number = refl in
    let done = says c.new-page.ensures.begins c.put_kept.ensures c.length.ensures refl told c.if-page-lt-PAGE_SIZE.false (omega arith) in
    search (rules, done)
