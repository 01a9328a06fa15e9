-- `count_on_token` is right because the definition takes 1 off too, held at 0.
use Rattle.fddi_timer_rules.specs.Timers.{visited}
use Rattle.rings.proofs.timing.count_on_token.Goals as goal

pub returns : goal.returns
unfolding visited
returns c =
    c.saturating_sub.ensures
