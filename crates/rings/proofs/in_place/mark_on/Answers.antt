-- `mark_on` is right because its number is the definition's, and the station is switched through, with what that takes back, exactly if it is 0.
use mathlib.Core.Path.{sym, ap, ◌∙◌}
use Rattle.rings.specs.Marking.{mark_number, none_withdrawn}
use Rattle.rings.proofs.MarkLaws.{number_is, mark_inside, marked_refused, marked_accepted}
use Rattle.rings.specs.declared.MarkedRing.{MarkedRing}
use Rattle.rings.proofs.in_place.mark_on.Goals as goal

pub returns-then-number-ne-ACCEPTED : goal.returns-then-number-ne-ACCEPTED
returns-then-number-ne-ACCEPTED c =
    let r = c.args.ring.now in
    let station = c.args.station in
    let same = number_is r station c.sound_lent-steady.ensures c.mark_number-number.ensures in
    let e = marked_refused (mark_number r station) r station (λ z. c.if-number-ne-ACCEPTED.true (same ∙ z)) in
    record {
      ring = sym (ap (λ (m : MarkedRing). m.ring) e);
      answered = c.none_withdrawn.ensures ∙ ap none_withdrawn same ∙ sym (ap (λ (m : MarkedRing). m.answer) e);
    }

pub withdrawal_of-answer-requires : goal.withdrawal_of-answer-requires
withdrawal_of-answer-requires c =
    let same = number_is c.args.ring.now c.args.station c.sound_lent-steady.ensures c.mark_number-number.ensures in
    mark_inside _ _ (sym same ∙ c.if-number-ne-ACCEPTED.false)

pub switch_through-requires : goal.switch_through-requires
switch_through-requires c =
    let same = number_is c.args.ring.now c.args.station c.sound_lent-steady.ensures c.mark_number-number.ensures in
    mark_inside _ _ (sym same ∙ c.if-number-ne-ACCEPTED.false)

pub returns : goal.returns
returns c =
    let r = c.args.ring.now in
    let station = c.args.station in
    let same = number_is r station c.sound_lent-steady.ensures c.mark_number-number.ensures in
    let e = marked_accepted (mark_number r station) r station (sym same ∙ c.if-number-ne-ACCEPTED.false) in
    record {
      ring = c.switch_through.ensures ∙ sym (ap (λ (m : MarkedRing). m.ring) e);
      answered = c.withdrawal_of-answer.ensures ∙ sym (ap (λ (m : MarkedRing). m.answer) e);
    }
