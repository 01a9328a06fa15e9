-- `limit_of` is right because its body is the definition.
use mathlib.Core.Path.{refl, sym, ◌∙◌}
use Rattle.text_faults.specs.Lines.{limit_of}
use Rattle.text_faults.proofs.lines.limit_of.Goals as goal

pub returns-then-is_byte : goal.returns-then-is_byte
unfolding limit_of
returns-then-is_byte c =
    rw (sym c.is_byte.ensures ∙ c.if-is_byte.true) refl

pub returns : goal.returns
unfolding limit_of
returns c =
    rw (sym c.is_byte.ensures ∙ c.if-is_byte.false) refl
