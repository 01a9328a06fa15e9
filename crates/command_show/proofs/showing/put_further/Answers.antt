-- `put_further` is right because the line has the word of its tag, and there is none where the number is what its absence means.
use mathlib.Core.Path.{sym}
use native.Mathlib.Omega.{arith}
use Rattle.text.proofs.PageLaws.{puts_none, puts_as}
use Rattle.sheet_text_rules.proofs.ShowLaws.{line_none, word_line, mode_named, frame_named, grid_named}
use Rattle.command_compose.specs.Compose.{mode_word, frame_word, grid_word}
use Rattle.command_show.proofs.showing.put_further.Goals as goal

pub returns-then-number-eq-ABSENT : goal.returns-then-number-eq-ABSENT
returns-then-number-eq-ABSENT c =
    puts_as (puts_none _) (sym (line_none c.args.tag c.args.number c.if-number-eq-ABSENT.true)) (omega arith)

pub returns-then-tag-eq-MODE_TAG : goal.returns-then-tag-eq-MODE_TAG
returns-then-tag-eq-MODE_TAG c =
    let args = c.args in
    let line = word_line args.tag args.number mode_word (mode_named args.tag c.if-tag-eq-MODE_TAG.true) c.if-number-eq-ABSENT.false in
    puts_as c.put_named.ensures (rw c.from-told.ensures line) (omega arith)

pub returns-then-tag-eq-FRAME_TAG : goal.returns-then-tag-eq-FRAME_TAG
returns-then-tag-eq-FRAME_TAG c =
    let args = c.args in
    let line = word_line args.tag args.number frame_word (frame_named args.tag c.if-tag-eq-FRAME_TAG.true) c.if-number-eq-ABSENT.false in
    puts_as c.put_named-then-tag-eq-FRAME_TAG.ensures (rw c.from-told.ensures line) (omega arith)

pub returns : goal.returns
returns c =
    let args = c.args in
    let line = word_line args.tag args.number grid_word (grid_named args.tag c.if-tag-eq-MODE_TAG.false c.if-tag-eq-FRAME_TAG.false) c.if-number-eq-ABSENT.false in
    puts_as c.put_named-2.ensures (rw c.from-told.ensures line) (omega arith)
