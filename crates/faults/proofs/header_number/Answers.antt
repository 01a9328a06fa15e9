-- `header_number` is right because its body is the definition.
use mathlib.Core.Path.{refl}
use borrow.Author.Tests.{eq-eqb, ne_eqb}
use Rattle.differences.specs.Views.{header_of}
use Rattle.faults.proofs.header_number.Goals as goal

pub returns-then-tag-eq-HEAD_TAG : goal.returns-then-tag-eq-HEAD_TAG
unfolding header_of
returns-then-tag-eq-HEAD_TAG c =
    rw (eq-eqb _ _ c.if-tag-eq-HEAD_TAG.true) refl

pub returns : goal.returns
unfolding header_of
returns c =
    rw (ne_eqb _ _ c.if-tag-eq-HEAD_TAG.false) c.head_number.ensures
