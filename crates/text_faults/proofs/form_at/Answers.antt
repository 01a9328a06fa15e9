-- `form_at` is right because its body is the definition.
use mathlib.Core.Path.{refl, sym, ◌∙◌}
use borrow.Author.Tests.{eq-eqb, ne_eqb, lt-leb, le-leb}
use Rattle.text_faults.specs.Expected.{form_at}
use Rattle.text_faults.proofs.form_at.Goals as goal

pub returns-then-place-eq0 : goal.returns-then-place-eq0
unfolding form_at
returns-then-place-eq0 c =
    rw (eq-eqb _ _ c.if-place-eq0.true) refl

pub returns-then-place-most_of : goal.returns-then-place-most_of
unfolding form_at
returns-then-place-most_of c =
    rw (ne_eqb _ _ c.if-place-eq0.false, lt-leb _ _ (rw c.most_of.ensures at c.if-place-most_of.true)) refl

pub returns-then-is_byte : goal.returns-then-is_byte
unfolding form_at
returns-then-is_byte c =
    rw (ne_eqb _ _ c.if-place-eq0.false, le-leb _ _ (rw c.most_of.ensures at c.if-place-most_of.false), sym c.is_byte.ensures ∙ c.if-is_byte.true) refl

pub returns : goal.returns
unfolding form_at
returns c =
    rw (ne_eqb _ _ c.if-place-eq0.false, le-leb _ _ (rw c.most_of.ensures at c.if-place-most_of.false), sym c.is_byte.ensures ∙ c.if-is_byte.false) refl
