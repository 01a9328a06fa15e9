-- `skipped_by` is right because its body is the definition.
use mathlib.Core.Path.{refl}
use borrow.Author.Tests.{eq-eqb, ne_eqb}
use Rattle.command_explain.specs.Sheet.{skipped_by}
use Rattle.command_explain.proofs.sheet.skipped_by.Goals as goal

pub returns-then-number-eq-RUNS_ON : goal.returns-then-number-eq-RUNS_ON
unfolding skipped_by
returns-then-number-eq-RUNS_ON c =
    rw (eq-eqb _ _ c.if-number-eq-RUNS_ON.true) refl

pub returns : goal.returns
unfolding skipped_by
returns c =
    rw (ne_eqb _ _ c.if-number-eq-RUNS_ON.false) refl
