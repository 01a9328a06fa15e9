-- `put_record` is right because it asks which record the line names, and the page has room for the field, so it is put.
use mathlib.Core.Path.{◌≡◌, sym, ◌∙◌}
use mathlib.Core.Bool.{true, false}
use native.Mathlib.Omega.{arith}
use Rattle.log_records.proofs.VisitLaws.{visit_length_lem}
use Rattle.log_records.proofs.MarkLaws.{mark_length_lem}
use Rattle.command_compose.specs.Compose.{is_visit_line}
use Rattle.command_compose.proofs.SentLaws.{record_fits, entry_visit, entry_mark, field_put}
use Rattle.command_compose.proofs.sending.put_record.Goals as goal

-- ---- the needs
pub visit_in-visit-requires : goal.visit_in-visit-requires
visit_in-visit-requires c =
    record_fits _ c.requires.line

pub mark_in-mark-requires : goal.mark_in-mark-requires
mark_in-mark-requires c =
    record_fits _ c.requires.line

pub returns-then-is_visit_line : goal.returns-then-is_visit_line
returns-then-is_visit_line c =
    let a_visit_lem : is_visit_line c.args.s ≡ true = sym c.is_visit_line.ensures ∙ c.if-is_visit_line.true in
    rw (entry_visit c.args.s a_visit_lem, ← c.visit_in-visit.ensures)
    (field_put _ 20 (visit_length_lem _) c.put_visit.ensures (omega (arith, c.requires.room)))

pub returns : goal.returns
returns c =
    let a_mark_lem : is_visit_line c.args.s ≡ false = sym c.is_visit_line.ensures ∙ c.if-is_visit_line.false in
    rw (entry_mark c.args.s a_mark_lem, ← c.mark_in-mark.ensures)
    (field_put _ 5 (mark_length_lem _) c.put_mark.ensures (omega (arith, c.requires.room)))
