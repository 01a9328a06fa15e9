-- `visit_rule` is right because it asks the definition's five tests in the definition's order.
use Rattle.std.proofs.Common.{◌≡◌, ℕ, true, ◌||◌, eqb, sym, ap, ◌∙◌, eq-eqb, ne_eqb, le-leb}
use borrow.Author.Tests.{lt-leb}
use Rattle.units.proofs.JudgingLaws.{held, failed}
use Rattle.inspection.specs.Rules.{start_kept, first_failed}
use Rattle.inspection.proofs.rules.visit_rule.Goals as goal

pub returns-then-visit-due : goal.returns-then-visit-due
unfolding first_failed
returns-then-visit-due c =
    sym (failed _ 1 _ (ne_eqb _ _ c.if-visit-due.true))

pub returns-then-not-started : goal.returns-then-not-started
unfolding first_failed
returns-then-not-started c =
    let due = c.args.due in
    sym (held _ 1 _ (eq-eqb _ _ c.if-visit-due.false) ∙ failed _ 2 _ (sym (ap (λ (t : ℕ). due.first || eqb t due.span) c.between.ensures) ∙ c.if-not-started.true))

pub returns-then-visit-due-2 : goal.returns-then-visit-due-2
unfolding first_failed
returns-then-visit-due-2 c =
    let started : let args = c.args in start_kept args.due args.visit ≡ true = let due = c.args.due in
    sym (ap (λ (t : ℕ). due.first || eqb t due.span) c.between.ensures) ∙ c.if-not-started.false in
    sym (held _ 1 _ (eq-eqb _ _ c.if-visit-due.false) ∙ held _ 2 _ started ∙ failed _ 3 _ (ne_eqb _ _ c.if-visit-due-2.true))

pub returns-then-due-visit : goal.returns-then-due-visit
unfolding first_failed
returns-then-due-visit c =
    let started : let args = c.args in start_kept args.due args.visit ≡ true = let due = c.args.due in
    sym (ap (λ (t : ℕ). due.first || eqb t due.span) c.between.ensures) ∙ c.if-not-started.false in
    sym (held _ 1 _ (eq-eqb _ _ c.if-visit-due.false) ∙ held _ 2 _ started ∙ held _ 3 _ (eq-eqb _ _ c.if-visit-due-2.false) ∙ failed _ 4 _ (lt-leb _ _ c.if-due-visit.true))

pub returns-then-fits : goal.returns-then-fits
unfolding first_failed
returns-then-fits c =
    let started : let args = c.args in start_kept args.due args.visit ≡ true = let due = c.args.due in
    sym (ap (λ (t : ℕ). due.first || eqb t due.span) c.between.ensures) ∙ c.if-not-started.false in
    sym (held _ 1 _ (eq-eqb _ _ c.if-visit-due.false) ∙ held _ 2 _ started ∙ held _ 3 _ (eq-eqb _ _ c.if-visit-due-2.false) ∙ held _ 4 _ (le-leb _ _ c.if-due-visit.false) ∙ held _ 5 _ (sym c.requires ∙ c.if-fits.true))

pub returns-else-fits : goal.returns-else-fits
unfolding first_failed
returns-else-fits c =
    let started : let args = c.args in start_kept args.due args.visit ≡ true = let due = c.args.due in
    sym (ap (λ (t : ℕ). due.first || eqb t due.span) c.between.ensures) ∙ c.if-not-started.false in
    sym (held _ 1 _ (eq-eqb _ _ c.if-visit-due.false) ∙ held _ 2 _ started ∙ held _ 3 _ (eq-eqb _ _ c.if-visit-due-2.false) ∙ held _ 4 _ (le-leb _ _ c.if-due-visit.false) ∙ failed _ 5 _ (sym c.requires ∙ c.if-fits.false))
