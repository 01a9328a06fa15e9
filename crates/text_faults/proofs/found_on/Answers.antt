-- `found_on` is right because its body is the definition.
use mathlib.Core.Path.{refl, sym, ◌∙◌}
use borrow.Author.Tests.{eq-eqb, ne_eqb}
use Rattle.text_faults.specs.Words.{found_on}
use Rattle.text_faults.proofs.found_on.Goals as goal

pub returns-then-over : goal.returns-then-over
unfolding found_on
returns-then-over c =
    rw c.if-over.true refl

pub returns-then-is_word_end : goal.returns-then-is_word_end
unfolding found_on
returns-then-is_word_end c =
    rw (c.if-over.false, sym c.is_word_end.ensures ∙ c.if-is_word_end.true) c.word_ended.ensures

pub returns-then-s-ne-BETWEEN : goal.returns-then-s-ne-BETWEEN
unfolding found_on
returns-then-s-ne-BETWEEN c =
    rw (c.if-over.false, sym c.is_word_end.ensures ∙ c.if-is_word_end.false, ne_eqb _ _ c.if-s-ne-BETWEEN.true) c.with_byte.ensures

pub returns : goal.returns
unfolding found_on
returns c =
    rw (c.if-over.false, sym c.is_word_end.ensures ∙ c.if-is_word_end.false, eq-eqb _ _ c.if-s-ne-BETWEEN.false) (c.with_byte-2.ensures ∙ rw (c.nothing_found-begun.ensures, c.place_of.ensures) refl)
