-- `put_entry` is right because an entry that was handed out behind an accepted plan has its line.
use mathlib.Core.Path.{sym}
use native.Mathlib.Omega.{arith}
use Rattle.text.proofs.PageLaws.{puts_none, puts_as}
use Rattle.command_show_log.proofs.ShowLaws.{lines_refused, lines_none, lines_one}
use Rattle.command_show_log.proofs.put_entry.Goals as goal

pub returns-then-number-ne-ACCEPTED : goal.returns-then-number-ne-ACCEPTED
returns-then-number-ne-ACCEPTED c =
    puts_as (puts_none _) (sym (lines_refused _ _ c.if-number-ne-ACCEPTED.true)) (omega arith)

pub returns-then-got-eq0 : goal.returns-then-got-eq0
returns-then-got-eq0 c =
    puts_as (puts_none _) (sym (lines_none _ _ c.if-number-ne-ACCEPTED.false c.if-got-eq0.true)) (omega arith)

pub returns : goal.returns
returns c =
    puts_as c.put_entry_line.ensures (sym (lines_one _ _ c.if-number-ne-ACCEPTED.false c.if-got-eq0.false)) (omega arith)
