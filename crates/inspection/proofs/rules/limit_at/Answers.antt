-- `limit_at` is right because it asks for the mode as the definition does, and takes off one number after another.
use Rattle.std.proofs.Common.{◌≡◌, true, eqb, refl, eq-eqb, ne_eqb}
use Rattle.units.specs.Numbers.{fddi}
use Rattle.inspection.specs.Rules.{limit_with}
use Rattle.inspection.proofs.rules.limit_at.Goals as goal

pub returns-then-head-eq-FDDI : goal.returns-then-head-eq-FDDI
unfolding limit_with
returns-then-head-eq-FDDI c =
    let led : eqb c.args.head.mode fddi ≡ true = eq-eqb _ _ c.if-head-eq-FDDI.true in
    rw led c.saturating_sub.ensures

pub returns : goal.returns
unfolding limit_with
returns c =
    rw (ne_eqb _ _ c.if-head-eq-FDDI.false, c.saturating_sub-4.ensures, c.saturating_sub-3.ensures, c.saturating_sub-whole.ensures, c.saturating_sub-2.ensures) refl
