-- `see_on` is right because it goes by the kind of the record, and by whether a rule is broken: then the numbers stay.
use Rattle.std.proofs.Common.{sym, ap, ◌∙◌}
use Rattle.tallies.specs.Tallies.{tallied, clock_after, switched_by}
use Rattle.tallies.proofs.SeenLaws.{visit_tallied_lem, seen_broken, seen_kept}
use Rattle.tallies.proofs.see_on.Goals as goal

pub returns-then-rule-ne0 : goal.returns-then-rule-ne0
returns-then-rule-ne0 c =
    let args = c.args in
    seen_broken _ _ _ _ _ _ _ c.lap_on-all.ensures c.if-rule-ne0.true (ap (switched_by args.mark.now) (sym c.in-Visit.is))

pub returns-then-rule-ne0-2 : goal.returns-then-rule-ne0-2
returns-then-rule-ne0-2 c =
    let args = c.args in
    seen_broken _ _ _ _ _ _ _ c.lap_on-all.ensures c.if-rule-ne0-2.true (c.switch_on.ensures ∙ ap (switched_by args.mark.now) (sym c.in-Mark.is))

pub returns-else-rule-ne0 : goal.returns-else-rule-ne0
returns-else-rule-ne0 c =
    let args = c.args in
    let is = sym c.in-Visit.is in
    seen_kept _ _ _ _ _ _ _ c.lap_on-all.ensures c.if-rule-ne0.false
    (c.tally_visit.ensures ∙ visit_tallied_lem args.numbers.now args.mark.now args.course.clock _ _ _ c.place_of-p.ensures c.from-through.ensures ∙ ap (tallied args.numbers.now args.mark.now args.course.clock) is)
    (ap (switched_by args.mark.now) is)
    (c.wrapping_add_u64-later.ensures.value ∙ rw c.took_by.ensures (ap (clock_after args.w.now args.course.clock) is))

pub returns-else-rule-ne0-2 : goal.returns-else-rule-ne0-2
returns-else-rule-ne0-2 c =
    let args = c.args in
    let is = sym c.in-Mark.is in
    seen_kept _ _ _ _ _ _ _ c.lap_on-all.ensures c.if-rule-ne0-2.false
    (ap (tallied args.numbers.now args.mark.now args.course.clock) is)
    (c.switch_on.ensures ∙ ap (switched_by args.mark.now) is)
    (ap (clock_after args.w.now args.course.clock) is)
