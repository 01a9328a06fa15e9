-- `run_piece` is right because after i turns the run stands behind the piece's first i bytes, and their answers are put.
use Prim.Native.Nat.{◌+◌, ◌*◌}
use mathlib.Core.Path.{refl, sym, ◌∙◌}
use native.Mathlib.Omega.{arith}
use borrow.Author.Rules.{rules}
use lib.Seq.{take_all}
use Rattle.std.proofs.Math.Bool.{or-false}
use Rattle.units.specs.Places.{at}
use Rattle.text.specs.Pages.{HasRoom}
use Rattle.text.proofs.PageLaws.{puts_as}
use Rattle.command_run.specs.Bytes.{some_over}
use Rattle.command_run.specs.Runs.{run_on, unread_at}
use Rattle.command_run.specs.RunText.{answer_text}
use Rattle.command_run.proofs.ByteLaws.{said_none, said_more, said_quiet, some_more}
use Rattle.command_run.proofs.RunLaws.{goes_on, line_ends_lem, did, empty_room, said_room, ran_all}
use Rattle.command_run.proofs.run_piece.Goals as goal
use Rattle.command_run.proofs.run_piece.Goals.{else-byte-eq10, then-byte-eq10}

pub loop-byte-init : goal.loop-byte-init
unfolding some_over
loop-byte-init c =
    (said_none _ _ _, refl)

pub put_answer-requires : goal.put_answer-requires
put_answer-requires c =
    said_room c.new-page.ensures.begins c.loop-byte.invariant.0 c.loop-byte-test.true c.requires.few c.requires.large

pub loop-byte-preserved : goal.loop-byte-preserved
unfolding answer_text
loop-byte-preserved c =
    let piece = c.args.piece.now in
    let i = c.loop-byte.byte-index in
    let u = c.loop-byte.stands in
    let inv = c.loop-byte.invariant in
    let inside = c.loop-byte-test.true in
    let room : HasRoom (240 * (c.loop-byte.byte-index + 1)) c.new-page.result = empty_room c.new-page.ensures.begins inside c.requires.few c.requires.large in
    let seen = some_more run_on unread_at piece c.args.run u i inside inv.0.stands in
    elim c.if-byte-eq10.branch [
      | then-byte-eq10 w ↦ let ended = did u (at piece i) (w.end_line-ended.ensures ∙ line_ends_lem u (at piece i) w.if-byte-eq10.true) in
          rw (w.page-is, w.stands-is, w.unread-is, seen) (
            said_more inv.0 inside room ended.0 (puts_as w.put_answer.ensures (rw ended.1 refl) (omega arith)),
            rw (w.is_unread-unread.ensures, ended.1, ← inv.1) refl,
          )
      | else-byte-eq10 w ↦ let on = did u (at piece i) (goes_on u (at piece i) w.if-byte-eq10.false) in
          rw (w.page-is, w.stands-is, w.unread-is, seen) (
            said_quiet inv.0 inside room (rw w.step-stands.ensures on.0) (rw (← on.1) refl),
            rw (← on.1, inv.1) (sym (or-false _)),
          )
    ]

pub returns : goal.returns
returns c =
    let inv = c.loop-byte.invariant in
    let whole = take_all c.loop-byte.byte-index c.args.piece.now (omega arith) in
    let done = ran_all whole (omega (arith, c.requires.few)) c.new-page.ensures.begins inv.0 inv.1 c.length.ensures in
    search (rules, done)
