-- `behind` is right because its body is the definition; a field of the header has at most 7 bytes.
use mathlib.Core.Path.{◌≡◌, refl, sym, ◌∙◌}
use native.Mathlib.Omega.{arith}
use borrow.Author.Tests.{eq-eqb, ne_eqb}
use Rattle.units.specs.Places.{at}
use Rattle.fields.proofs.FieldLaws.{further_small}
use Rattle.fields.specs.Header.{behind_tag}
use Rattle.command_explain.proofs.sheet.behind.Goals as goal

pub overflow_add-result-then-there-from : goal.overflow_add-result-then-there-from
overflow_add-result-then-there-from c =
    omega (arith, c.further_size.ensures, further_small c.args.tag)

pub returns-then-there-from : goal.returns-then-there-from
unfolding behind_tag
returns-then-there-from c =
    let tag = c.args.tag in
    let same = sym c.byte_or_zero-there.ensures.is ∙ c.if-there-from.true ∙ c.from.ensures in
    (rw (eq-eqb _ _ same, c.further_size.ensures) refl, omega (arith, c.further_size.ensures, further_small tag))

pub returns : goal.returns
unfolding behind_tag
returns c =
    let other : at c.args.bs.now c.args.at ≡ c.args.tag → ⊥ = λ e. c.if-there-from.false (c.byte_or_zero-there.ensures.is ∙ e ∙ sym c.from.ensures) in
    (rw (ne_eqb _ _ other) refl, omega arith)
