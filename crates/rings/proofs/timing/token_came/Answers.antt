-- `token_came` is right because its two stores are the definition's.
use mathlib.Core.Path.{refl}
use Rattle.rings.specs.Timers.{token_came}
use Rattle.rings.proofs.timing.token_came.Goals as goal

pub returns : goal.returns
unfolding token_came
returns c =
    (rw c.timer_on_token.ensures refl, rw c.count_on_token.ensures refl)
