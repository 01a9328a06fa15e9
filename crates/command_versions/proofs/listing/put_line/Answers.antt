-- `put_line` is right because it puts the words with the numbers of the plan.
use mathlib.Core.Path.{refl}
use native.Mathlib.Omega.{arith}
use Rattle.text.proofs.PageLaws.{puts_as}
use Rattle.command_versions.proofs.listing.put_line.Goals as goal

pub returns : goal.returns
returns c =
    puts_as c.put_words.ensures
    (rw (c.from-number.ensures, c.from-n.ensures, c.from-ttrt.ensures, c.walk_time-tau.ensures.sum, c.spare-spare.ensures) refl)
    (omega arith)
