-- `put_change` is right because it puts what the definition says of each kind of line.
use mathlib.Core.Path.{refl}
use native.Mathlib.Omega.{arith}
use Rattle.text.proofs.TextLaws.{put_none, printed}
use Rattle.command_hopper.specs.Refits.{change_text}
use Rattle.command_hopper.proofs.change_lines.put_change.Goals as goal

pub returns-in-Nothing : goal.returns-in-Nothing
unfolding change_text
returns-in-Nothing c =
    rw c.in-Nothing.is (printed {most = 0} (record { put = put_none _ 0; short = omega arith }) refl (omega arith) (omega arith))

pub returns-in-Answered : goal.returns-in-Answered
unfolding change_text
returns-in-Answered c =
    rw c.in-Answered.is c.put_answered.ensures

pub returns-in-Unread : goal.returns-in-Unread
unfolding change_text
returns-in-Unread c =
    rw c.in-Unread.is c.put_unread.ensures
