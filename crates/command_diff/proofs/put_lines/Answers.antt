-- `put_lines` is right because the lines are put if both plans are small enough and the page has room for the longest.
use Rattle.command_diff.proofs.AnswerLaws.{lines_many, lines_full, lines_fit, lines_put}
use native.Mathlib.Omega.{arith}
use Rattle.command_diff.proofs.put_lines.Goals as goal

pub returns-then-not-few : goal.returns-then-not-few
returns-then-not-few c =
    lines_many c.if-not-few.true

pub returns-then-room-lt-LINES_SIZE : goal.returns-then-room-lt-LINES_SIZE
returns-then-room-lt-LINES_SIZE c =
    lines_full (λ fits. omega (arith, fits))

pub put_differences-requires : goal.put_differences-requires
put_differences-requires c =
    (lines_fit _ _ c.if-not-few.false, omega arith)

pub returns : goal.returns
returns c =
    lines_put c.if-not-few.false (omega arith) c.put_differences.ensures
