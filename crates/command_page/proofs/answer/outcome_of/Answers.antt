-- `outcome_of` is right because it asks in the definition's order.
use Rattle.std.proofs.Common.{refl, eq-eqb, ne_eqb}
use Rattle.command_page.specs.Account.{outcome_of}
use Rattle.command_page.proofs.answer.outcome_of.Goals as goal

pub returns-then-refused : goal.returns-then-refused
unfolding outcome_of
returns-then-refused c =
    rw c.if-refused.true refl

pub returns-then-number_of-ne-ACCEPTED : goal.returns-then-number_of-ne-ACCEPTED
unfolding outcome_of
returns-then-number_of-ne-ACCEPTED c =
    rw (c.if-refused.false, ← c.number_of.ensures, ne_eqb _ _ c.if-number_of-ne-ACCEPTED.true) refl

pub returns-then-another : goal.returns-then-another
unfolding outcome_of
returns-then-another c =
    rw (c.if-refused.false, ← c.number_of.ensures, eq-eqb _ _ c.if-number_of-ne-ACCEPTED.false, ← c.is_other.ensures, c.if-another.true) refl

pub returns-then-k-eq0 : goal.returns-then-k-eq0
unfolding outcome_of
returns-then-k-eq0 c =
    rw (c.if-refused.false, ← c.number_of.ensures, eq-eqb _ _ c.if-number_of-ne-ACCEPTED.false, ← c.is_other.ensures, c.if-another.false, eq-eqb _ _ c.if-k-eq0.true) refl

pub returns : goal.returns
unfolding outcome_of
returns c =
    rw (c.if-refused.false, ← c.number_of.ensures, eq-eqb _ _ c.if-number_of-ne-ACCEPTED.false, ← c.is_other.ensures, c.if-another.false, ne_eqb _ _ c.if-k-eq0.false) refl
