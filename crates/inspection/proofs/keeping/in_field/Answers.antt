-- `in_field` is right because it goes by the kind as the definition does.
use Rattle.std.proofs.Common.{refl, sym, ◌∙◌, eq-eqb, ne_eqb}
use Rattle.inspection.specs.Kept.{entry_of, in_field}
use Rattle.inspection.proofs.keeping.in_field.Goals as goal

pub returns-then-told-from : goal.returns-then-told-from
unfolding entry_of in_field
returns-then-told-from c =
    rw (eq-eqb _ _ (c.if-told-from.true ∙ c.from.ensures)) refl

pub returns : goal.returns
unfolding entry_of in_field
returns c =
    rw (ne_eqb _ _ (λ e. c.if-told-from.false (e ∙ sym c.from.ensures))) refl
