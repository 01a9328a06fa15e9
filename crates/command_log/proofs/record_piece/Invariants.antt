-- `record_piece` is right because after i turns the recording stands behind the piece's first i bytes, and the fields of their records are put.
use Prim.Native.Nat.{ℕ}
use Rattle.std.specs.Prelude.{Option}
use Rattle.logs.specs.declared.Recorder.{Recorder}
use Rattle.command_run.specs.declared.Run.{Run}
use Rattle.command_run.proofs.ByteLaws.{Behind}
use Rattle.command_log.specs.LogBytes.{record_on, logged_at}
use Rattle.command_log.specs.declared.Recording.{Recording}
use Rattle.command_log.proofs.record_piece.Given as goal

-- the recording that the loop's variables are
abbrev pub held_by : Run → Option ℕ → Recorder → Recording
held_by run unread r = record { run = run; clock = r.clock; counter = r.counter; unread = unread }

abbrev pub invariant-loop-byte : goal.invariant-loop-byte
invariant-loop-byte l =
    Behind record_on logged_at 20 l.piece l.initial.page (held_by l.initial.stands l.initial.unread l.initial.recorder) l.byte-index (held_by l.stands l.unread l.recorder) l.page l.recorder.at
