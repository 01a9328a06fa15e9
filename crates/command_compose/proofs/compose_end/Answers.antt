-- `compose_end` is right because it asks whether a log is at its end; if so it puts the end, and else what the lines make.
use mathlib.Core.Path.{◌≡◌, sym, ◌∙◌}
use mathlib.Core.Bool.{true}
use Rattle.command_compose.specs.Sent.{goes_out}
use Rattle.command_compose.proofs.SentLaws.{ended_sheet, end_refused, ended_log}
use Rattle.command_compose.proofs.compose_end.Goals as goal

pub returns-then-not-goes_out : goal.returns-then-not-goes_out
returns-then-not-goes_out c =
    ended_sheet _ _ _ _ (sym c.goes_out.ensures ∙ c.if-not-goes_out.true) c.write_draft.ensures

pub returns-then-number-ne-ACCEPTED : goal.returns-then-number-ne-ACCEPTED
returns-then-number-ne-ACCEPTED c =
    let a_log : goes_out c.args.d ≡ true = sym c.goes_out.ensures ∙ c.if-not-goes_out.false in
    end_refused _ _ _ _ a_log c.put_end-number.ensures c.if-number-ne-ACCEPTED.true

pub returns : goal.returns
returns c =
    let a_log : goes_out c.args.d ≡ true = sym c.goes_out.ensures ∙ c.if-not-goes_out.false in
    ended_log _ _ _ _ a_log c.put_end-number.ensures c.if-number-ne-ACCEPTED.false c.put_end-number.auto.out
