-- `record_piece` is right because after i turns the recording stands behind the piece's first i bytes, and the fields of their records are put.
use Prim.Native.Nat.{◌+◌, ◌*◌, ◌≤◌}
use mathlib.Core.Path.{◌≡◌, ap, ◌∙◌}
use native.Mathlib.Omega.{arith}
use lib.ListN.{length}
use lib.Seq.{take_all}
use Rattle.units.specs.Places.{at}
use Rattle.text.proofs.TextLaws.{put_as}
use Rattle.logs.specs.Layout.{entries_bytes}
use Rattle.command_run.proofs.ByteLaws.{behind_none, behind_more, behind_quiet}
use Rattle.command_run.proofs.RunLaws.{goes_on, line_ends_lem}
use Rattle.command_log.specs.LogBytes.{visits_in, clock_after, counter_after, entries_by, first_unread, record_on, record_after, logged_over}
use Rattle.command_log.proofs.RecordLaws.{record_byte}
use Rattle.command_log.proofs.record_piece.Goals as goal
use Rattle.command_log.proofs.record_piece.Goals.{else-byte-eq10, then-byte-eq10}
use Rattle.command_log.proofs.record_piece.Invariants.{held_by}

pub loop-byte-init : goal.loop-byte-init
loop-byte-init c =
    behind_none _ _ _

pub loop-byte-preserved : goal.loop-byte-preserved
unfolding visits_in clock_after counter_after entries_by first_unread entries_bytes
loop-byte-preserved c =
    let piece = c.args.piece.now in
    let i = c.loop-byte.byte-index in
    let u = c.loop-byte.stands in
    let k = held_by u c.loop-byte.unread c.loop-byte.recorder in
    let inv = c.loop-byte.invariant in
    let inside = c.loop-byte-test.true in
    let room : 20 * (c.loop-byte.byte-index + 1) ≤ length c.args.page.now = omega (arith, inside, c.requires.few, c.requires.large) in
    elim c.if-byte-eq10.branch [
      | then-byte-eq10 w ↦ let on = record_byte k (at piece i) w.end_line-ended.result (w.end_line-ended.ensures ∙ line_ends_lem u (at piece i) w.if-byte-eq10.true) in
          let kept = w.record_answer-recorder.ensures in
          let e : held_by w.end_line-ended.result.run w.first_unread-unread.result w.record_answer-recorder.result ≡ record_on k (at piece i) = rw (kept.clock, kept.counter, w.first_unread-unread.ensures, w.is_unread.ensures) on.0 in
          rw (w.page-is, w.stands-is, w.unread-is, w.recorder-is) (behind_more inv inside room e (put_as {more = 20} kept.put on.1 (omega arith)) w.record_answer-recorder.auto.page)
      | else-byte-eq10 w ↦ let on = record_byte k (at piece i) _ (goes_on u (at piece i) w.if-byte-eq10.false) in
          rw (w.page-is, w.stands-is, w.unread-is, w.recorder-is) (behind_quiet inv inside room (rw w.step-stands.ensures on.0) on.1)
    ]

pub returns : goal.returns
returns c =
    let inv = c.loop-byte.invariant in
    let whole = take_all c.loop-byte.byte-index c.args.piece.now (omega arith) in
    record { behind = inv.stands ∙ ap (record_after c.args.recording) whole; logged = put_as inv.put (ap (logged_over c.args.recording) whole) (omega (arith, c.requires.few)) }
