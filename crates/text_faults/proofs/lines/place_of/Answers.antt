-- `place_of` is right because its body is the definition.
use mathlib.Core.Path.{refl}
use borrow.Author.Tests.{eq-eqb, ne_eqb, lt-ltb, le-ltb}
use Rattle.text_faults.specs.Lines.{place_of}
use Rattle.text_faults.proofs.lines.place_of.Goals as goal

pub returns-then-s-eq0 : goal.returns-then-s-eq0
unfolding place_of
returns-then-s-eq0 c =
    rw (eq-eqb _ _ c.if-s-eq0.true) refl

pub returns-then-s-lt5 : goal.returns-then-s-lt5
unfolding place_of
returns-then-s-lt5 c =
    rw (ne_eqb _ _ c.if-s-eq0.false, lt-ltb _ _ c.if-s-lt5.true) refl

pub returns : goal.returns
unfolding place_of
returns c =
    rw (ne_eqb _ _ c.if-s-eq0.false, le-ltb _ _ c.if-s-lt5.false) refl
