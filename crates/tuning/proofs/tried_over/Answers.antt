-- `tried_over` is right because after i turns the first i TTRT have been tried.
use mathlib.Core.Path.{sym, ◌∙◌}
use Rattle.tuning.proofs.TriedLaws.{over_none, over_step}
use Rattle.tuning.proofs.tried_over.Goals as goal

pub loop-i-init : goal.loop-i-init
loop-i-init c =
    sym (over_none _ _ _ _ _)

pub loop-i-preserved : goal.loop-i-preserved
loop-i-preserved c =
    let args = c.args in
    c.tried-seen.ensures
    ∙ rw (c.from-in-loop-i.ensures, c.from.ensures, c.loop-i.invariant) (sym (over_step args.h args.c.now args.d.now args.from c.loop-i.i args.k))
