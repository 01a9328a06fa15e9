-- `line_ended` is right because its body is the definition.
use mathlib.Core.Path.{refl, sym, ◌∙◌}
use Rattle.text_faults.specs.Watching.{line_ended}
use Rattle.text_faults.proofs.line_ended.Goals as goal

pub returns-then-not-is_read : goal.returns-then-not-is_read
unfolding line_ended
returns-then-not-is_read c =
    rw (sym c.is_read.ensures ∙ c.if-not-is_read.true, c.word_ended-found.ensures) refl

pub returns-then-first : goal.returns-then-first
unfolding line_ended
returns-then-first c =
    rw (sym c.is_read.ensures ∙ c.if-not-is_read.false, rw c.number_out-number.ensures at c.if-first.true) (c.next_line.ensures ∙ rw c.number_out-number.ensures refl)

pub returns : goal.returns
unfolding line_ended
returns c =
    rw (sym c.is_read.ensures ∙ c.if-not-is_read.false, rw c.number_out-number.ensures at c.if-first.false) c.next_line-2.ensures
