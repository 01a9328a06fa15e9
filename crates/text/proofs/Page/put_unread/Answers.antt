-- `put_unread` is right because its words are put one behind another.
use mathlib.Core.Path.{sym, ◌∙◌}
use mathlib.Core.List.{[], ◌∷◌, ◌++◌, append_assoc}
use native.Mathlib.Omega.{arith}
use Rattle.text.specs.Text.{newline, space, decimal_of, line_word, cannot_be_read}
use Rattle.text.proofs.TextLaws.{line_parts}
use Rattle.text.proofs.PageLaws.{within, puts_then, puts_as}
use Rattle.text.proofs.Page.put_unread.Goals as goal

pub returns : goal.returns
returns c =
    let two = puts_then c.put_word.ensures c.put_spaced.ensures (omega arith) in
    let three = puts_then two c.put_word-2.ensures (omega arith) in
    let n = decimal_of c.args.line in
    let whole = line_parts line_word n cannot_be_read ∙ append_assoc (line_word ++ (space ∷ n)) cannot_be_read (newline ∷ []) in
    within (omega arith) (puts_as three (sym whole) (omega arith))
