-- `diff_text` is right because what is put of the two files is put into an empty page.
use mathlib.Core.Path.{refl}
use native.Mathlib.Omega.{arith}
use borrow.Author.Rules.{rules}
use borrow.Author.Tests.{le-leb}
use Rattle.text.proofs.PageLaws.{printed}
use Rattle.command_diff.proofs.AnswerLaws.{diffed_nothing}
use Rattle.command_diff.proofs.diff_text.Goals as goal

pub returns-then-page-lt-PAGE_SIZE : goal.returns-then-page-lt-PAGE_SIZE
returns-then-page-lt-PAGE_SIZE c =
    diffed_nothing c.if-page-lt-PAGE_SIZE.true

pub returns : goal.returns
returns c =
    let large = c.if-page-lt-PAGE_SIZE.false in
    let done = printed c.new-page.ensures.begins c.put_compared-same.ensures.put c.length.ensures refl large (omega arith) in
    record { printed = search (rules, done); same = rw (le-leb _ _ large) c.put_compared-same.ensures.same }
