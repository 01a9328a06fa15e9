-- `record_number` is right because it asks the definition's three tests in the definition's order.
use Rattle.std.proofs.Common.{◌≡◌, sym, ◌∙◌}
use Rattle.units.proofs.JudgingLaws.{failed, held}
use Rattle.inspection.specs.Kept.{entry_of, in_field, record_number}
use Rattle.inspection.proofs.keeping.record_number.Goals as goal

pub returns-then-not-begun : goal.returns-then-not-begun
unfolding record_number
returns-then-not-begun c =
    sym (failed _ _ _ c.if-not-begun.true)

pub returns-then-not-known : goal.returns-then-not-known
unfolding record_number
returns-then-not-known c =
    sym (held _ _ _ c.if-not-begun.false ∙ failed _ _ _ (rw (c.from.ensures, c.from-2.ensures) at c.if-not-known.true))

pub returns-then-not-in_field : goal.returns-then-not-in_field
unfolding record_number
returns-then-not-in_field c =
    let asked : in_field (entry_of c.args.told) ≡ c.in_field.result = sym c.in_field.ensures in
    sym (held _ _ _ c.if-not-begun.false ∙ held _ _ _ (rw (c.from.ensures, c.from-2.ensures) at c.if-not-known.false) ∙ failed _ _ _ (asked ∙ c.if-not-in_field.true))

pub returns : goal.returns
unfolding record_number
returns c =
    let asked : in_field (entry_of c.args.told) ≡ c.in_field.result = sym c.in_field.ensures in
    sym (held _ _ _ c.if-not-begun.false ∙ held _ _ _ (rw (c.from.ensures, c.from-2.ensures) at c.if-not-known.false) ∙ held _ _ _ (asked ∙ c.if-not-in_field.false))
