-- `stop_number` is right because the field's own number comes first, and then the one test of the definition.
use mathlib.Core.Path.{refl, sym}
use borrow.Author.Tests.{le-leb, lt-leb, ne_eqb}
use Rattle.units.proofs.JudgingLaws.{held, failed}
use Rattle.field_reader.specs.Scanned.{stop_number}
use Rattle.field_reader.proofs.stop_number.Goals as goal

pub returns-then-field-ne-ACCEPTED : goal.returns-then-field-ne-ACCEPTED
unfolding stop_number
returns-then-field-ne-ACCEPTED c =
    rw (ne_eqb _ _ c.if-field-ne-ACCEPTED.true) refl

pub returns-then-field-size : goal.returns-then-field-size
unfolding stop_number
returns-then-field-size c =
    rw c.if-field-ne-ACCEPTED.false (sym (failed _ _ _ (lt-leb _ _ c.if-field-size.true)))

pub returns : goal.returns
unfolding stop_number
returns c =
    rw c.if-field-ne-ACCEPTED.false (sym (held _ _ _ (le-leb _ _ c.if-field-size.false)))
