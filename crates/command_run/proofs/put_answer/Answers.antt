-- `put_answer` is right because it puts what the definition says of each kind of answer.
use mathlib.Core.Path.{refl}
use native.Mathlib.Omega.{arith}
use Rattle.text.proofs.TextLaws.{unread_short}
use Rattle.text.proofs.PageLaws.{puts_none, puts, puts_as}
use Rattle.command_run.specs.RunText.{answer_text}
use Rattle.command_run.proofs.put_answer.Goals as goal

pub returns-in-Nothing : goal.returns-in-Nothing
unfolding answer_text
returns-in-Nothing c =
    rw c.in-Nothing.is (puts_as (puts_none _) refl (omega arith))

pub returns-in-Visit : goal.returns-in-Visit
unfolding answer_text
returns-in-Visit c =
    rw c.in-Visit.is c.put_visit.ensures

pub returns-in-HandIn : goal.returns-in-HandIn
unfolding answer_text
returns-in-HandIn c =
    rw c.in-HandIn.is c.put_done.ensures

pub returns-in-Mark : goal.returns-in-Mark
unfolding answer_text
returns-in-Mark c =
    rw c.in-Mark.is c.put_mark.ensures

pub returns-in-Unmark : goal.returns-in-Unmark
unfolding answer_text
returns-in-Unmark c =
    rw c.in-Unmark.is c.put_done-in-Unmark.ensures

pub returns-in-Unread : goal.returns-in-Unread
unfolding answer_text
returns-in-Unread c =
    rw c.in-Unread.is (puts_as (puts c.put_unread.ensures (omega (arith, c.requires)) (unread_short _)) refl (omega arith))
