-- `last_record` is right because its branch is the definition's own.
use Rattle.std.proofs.Common.{◌≡◌, false, eqb, refl, eq-eqb, ne_eqb}
use Rattle.inspection.specs.Kept.{last_record}
use Rattle.inspection.proofs.keeping.last_record.Goals as goal

pub returns-then-rule-ne0 : goal.returns-then-rule-ne0
unfolding last_record
returns-then-rule-ne0 c =
    let broken : eqb c.args.rule 0 ≡ false = ne_eqb _ 0 c.if-rule-ne0.true in
    rw broken refl

pub returns : goal.returns
unfolding last_record
returns c =
    rw (eq-eqb _ 0 c.if-rule-ne0.false) refl
