-- `put_side` is right because it puts a space and the word of the side.
use mathlib.Core.Path.{refl}
use native.Mathlib.Omega.{arith}
use Rattle.text.proofs.PageLaws.{puts, puts_as}
use Rattle.command_diff.specs.DiffText.{side_word}
use Rattle.command_diff.proofs.putting.put_side.Goals as goal

pub returns-then-new : goal.returns-then-new
unfolding side_word
returns-then-new c =
    puts_as (puts c.put_short.ensures (omega arith) (omega arith)) (rw c.if-new.true refl) (omega arith)

pub returns : goal.returns
unfolding side_word
returns c =
    puts_as (puts c.put_short-2.ensures (omega arith) (omega arith)) (rw c.if-new.false refl) (omega arith)
