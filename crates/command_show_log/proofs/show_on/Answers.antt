-- `show_on` is right because it reads the first 512 bytes, or all if they are fewer.
use mathlib.Core.Path.{refl}
use native.Mathlib.Omega.{arith}
use borrow.Author.Rules.{rules}
use Rattle.text.proofs.PageLaws.{printed}
use Rattle.command_show_log.specs.declared.Shown.{Shown}
use Rattle.command_show_log.proofs.ShowLaws.{shown_none, shown_piece}
use Rattle.command_show_log.proofs.show_on.Goals as goal

pub returns-then-page-lt-PAGE_SIZE : goal.returns-then-page-lt-PAGE_SIZE
returns-then-page-lt-PAGE_SIZE c =
    shown_none _ _ _ c.if-page-lt-PAGE_SIZE.true

pub returns : goal.returns
returns c =
    let piece = c.show_piece-showing.ensures in
    let large = c.if-page-lt-PAGE_SIZE.false in
    let made : Shown = record { showing = c.show_piece-showing.result; length = c.length-length.result } in
    let lines = printed c.new-page.ensures.begins piece.shown c.length-length.ensures refl large (omega arith) in
    let done = shown_piece _ _ _ _ _ made c.piece_length-end.ensures large piece.behind lines in
    search (rules, done)
