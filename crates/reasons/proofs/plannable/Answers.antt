-- `plannable` is right because its two tests are the definition's: a set is judged 0 exactly if its judgement is no refusal.
use mathlib.Core.Path.{refl}
use Rattle.units.proofs.RefusalLaws.{ok_test}
use Rattle.reasons.proofs.plannable.Goals as goal

pub returns : goal.returns
returns c =
    rw (c.is_ok.ensures.value, ok_test c.judge.result, c.judge.ensures) refl
