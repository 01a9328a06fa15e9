-- `expectation` is right because its body is the definition.
use mathlib.Core.Path.{refl}
use Rattle.text_faults.specs.Expected.{expected_of}
use Rattle.text_faults.proofs.expectation.Goals as goal

pub returns-then-w : goal.returns-then-w
unfolding expected_of
returns-then-w c =
    rw (c.if-w.true, c.form_at-form.ensures) refl

pub returns : goal.returns
unfolding expected_of
returns c =
    rw (c.if-w.false, c.form_at-form-2.ensures, c.place_of-place.ensures) refl
