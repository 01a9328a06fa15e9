-- `frames_fit` is right because an amount within the limit is given by frames of one tick, and one above it only by frames longer than what it is above.
use Rattle.std.proofs.Common.{sym, ◌∙◌}
use Rattle.inspection.proofs.FrameLaws.{fit_within, fit_none, fit_searched}
use Rattle.inspection.proofs.frames.frames_fit.Goals as goal

pub returns-then-amount-limit : goal.returns-then-amount-limit
returns-then-amount-limit c =
    sym (fit_within _ _ _ c.if-amount-limit.true)

pub returns-then-longest-over : goal.returns-then-longest-over
returns-then-longest-over c =
    sym (fit_none _ _ _ c.if-amount-limit.false c.if-longest-over.true)

pub returns : goal.returns
returns c =
    c.divided_between.ensures ∙ sym (fit_searched _ _ _ c.if-amount-limit.false)
