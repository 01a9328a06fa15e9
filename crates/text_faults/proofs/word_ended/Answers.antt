-- `word_ended` is right because its body is the definition.
use mathlib.Core.Path.{refl}
use Rattle.text_faults.specs.Words.{word_ended}
use Rattle.text_faults.proofs.word_ended.Goals as goal

pub returns-then-f : goal.returns-then-f
unfolding word_ended
returns-then-f c =
    rw c.if-f.true refl

pub returns : goal.returns
unfolding word_ended
returns c =
    rw (c.if-f.false, c.begins-begins.ensures) refl
