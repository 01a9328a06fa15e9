-- `mark_rule` is right because a mark's rules are a list of one.
use Rattle.std.proofs.Common.{sym}
use Rattle.units.proofs.JudgingLaws.{held, failed}
use Rattle.inspection.specs.Rules.{first_failed}
use Rattle.inspection.proofs.rules.mark_rule.Goals as goal

pub returns-then-kept : goal.returns-then-kept
unfolding first_failed
returns-then-kept c x count =
    rw count (sym (held _ 1 _ c.if-kept.true))

pub returns-else-kept : goal.returns-else-kept
unfolding first_failed
returns-else-kept c x count =
    rw count (sym (failed _ 1 _ c.if-kept.false))
