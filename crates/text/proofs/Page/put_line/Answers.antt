-- `put_line` is right because the word, the numbers and the end are put one behind another, where all of them have room.
use mathlib.Core.Path.{sym, ◌∙◌}
use native.Mathlib.Omega.{arith}
use borrow.Author.Tests.{leb-true}
use Rattle.text.specs.Pages.{HasRoom}
use Rattle.text.proofs.TextLaws.{line_fields}
use Rattle.text.proofs.PageLaws.{within, puts_then, puts_as}
use Rattle.text.proofs.Page.put_line.Goals as goal

pub returns : goal.returns
returns c =
    let args = c.args in
    let room : HasRoom _ args.self.now = leb-true _ _ (sym c.has_room.ensures ∙ c.if-not-has_room.false) in
    let two = puts_then c.put_word.ensures c.put_fields.ensures (omega (arith, room)) in
    within room (puts_as (puts_then two c.put_byte.ensures (omega (arith, room))) (line_fields args.word.now args.numbers.now) (omega arith))
