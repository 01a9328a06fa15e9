-- `put_line` is right because it asks for a record whose bytes go out, and puts the plan's fields and then the record's.
use mathlib.Core.Path.{◌≡◌, sym, ap, ◌∙◌}
use mathlib.Core.Bool.{true, false}
use native.Mathlib.Omega.{arith}
use Rattle.text.proofs.TextLaws.{put_none, put_then}
use Rattle.command_compose.specs.Compose.{is_record_line, with_record}
use Rattle.command_compose.specs.Sent.{entry_in, goes_out}
use Rattle.command_compose.proofs.SentLaws.{field_short, out_judged, sent_record, sent_other, sent_stopped, plan_room}
use Rattle.command_compose.proofs.sending.put_line.Goals as goal

-- ---- the needs
pub returns-then-not-is_record_line : goal.returns-then-not-is_record_line
returns-then-not-is_record_line c =
    let no_record_lem : is_record_line c.args.s ≡ false = sym c.is_record_line.ensures ∙ c.if-not-is_record_line.true in
    let args = c.args in
    rw (sent_other args.d args.s no_record_lem) (put_none _ _)

pub returns-then-not-goes_out : goal.returns-then-not-goes_out
returns-then-not-goes_out c =
    let stopped : goes_out (with_record c.args.d) ≡ false = ap goes_out (sym c.with_record-behind.ensures) ∙ sym c.goes_out.ensures ∙ c.if-not-goes_out.true in
    let args = c.args in
    rw (sent_stopped args.d args.s stopped) (put_none _ _)

pub put_plan-begun-requires : goal.put_plan-begun-requires
put_plan-begun-requires c =
    let gone : goes_out (with_record c.args.d) ≡ true = ap goes_out (sym c.with_record-behind.ensures) ∙ sym c.goes_out.ensures ∙ c.if-not-goes_out.false in
    record { judged = out_judged c.args.d gone; first = λ k. c.requires.first (omega (arith, k)); large = c.requires.large }

pub put_record-requires : goal.put_record-requires
put_record-requires c =
    let gone : goes_out (with_record c.args.d) ≡ true = ap goes_out (sym c.with_record-behind.ensures) ∙ sym c.goes_out.ensures ∙ c.if-not-goes_out.false in
    let a_record : is_record_line c.args.s ≡ true = sym c.is_record_line.ensures ∙ c.if-not-is_record_line.false in
    let room = plan_room c.args.d c.args.at c.args.page.now c.requires (out_judged c.args.d gone) in
    let next = c.put_plan-begun.ensures.next in
    let same = c.put_plan-begun.auto.page in
    record { line = a_record; room = omega arith }

pub returns : goal.returns
returns c =
    let gone : goes_out (with_record c.args.d) ≡ true = ap goes_out (sym c.with_record-behind.ensures) ∙ sym c.goes_out.ensures ∙ c.if-not-goes_out.false in
    let a_record : is_record_line c.args.s ≡ true = sym c.is_record_line.ensures ∙ c.if-not-is_record_line.false in
    let room = plan_room c.args.d c.args.at c.args.page.now c.requires (out_judged c.args.d gone) in
    rw (sent_record c.args.d c.args.s a_record gone)
    (put_then c.put_plan-begun.ensures c.put_record.ensures (omega (arith, field_short (entry_in c.args.s))))
