-- `unmark_on` is right because its number is the definition's, and the mark is taken off exactly if it is 0.
use mathlib.Core.Path.{sym, ap, ◌∙◌}
use mathlib.Core.List.{List}
use Prim.Native.Nat.{ℕ}
use Rattle.rings.specs.State.{with_messages}
use Rattle.rings.specs.Marking.{mark_number, switched_in}
use Rattle.rings.proofs.MarkLaws.{number_is, mark_inside, unmarked_refused, unmarked_accepted}
use Rattle.rings.specs.declared.Taken.{Taken}
use Rattle.rings.proofs.in_place.unmark_on.Goals as goal

pub returns-then-number-ne-ACCEPTED : goal.returns-then-number-ne-ACCEPTED
returns-then-number-ne-ACCEPTED c =
    let r = c.args.ring.now in
    let station = c.args.station in
    let same = number_is r station c.sound_lent-steady.ensures c.mark_number-number.ensures in
    let e = unmarked_refused (mark_number r station) r station (λ z. c.if-number-ne-ACCEPTED.true (same ∙ z)) in
    record { ring = sym (ap (λ (t : Taken). t.ring) e); answered = same ∙ sym (ap (λ (t : Taken). t.number) e) }

pub switch_in-requires : goal.switch_in-requires
switch_in-requires c =
    let same = number_is c.args.ring.now c.args.station c.sound_lent-steady.ensures c.mark_number-number.ensures in
    mark_inside _ _ (sym same ∙ c.if-number-ne-ACCEPTED.false)

pub returns : goal.returns
unfolding switched_in
returns c =
    let r = c.args.ring.now in
    let station = c.args.station in
    let same = number_is r station c.sound_lent-steady.ensures c.mark_number-number.ensures in
    let e = unmarked_accepted (mark_number r station) r station (sym same ∙ c.if-number-ne-ACCEPTED.false) in
    record {
      ring = ap (λ (mark : List ℕ). with_messages (record { rest = r.rest; arrival = r.arrival; had = r.had; mark = mark }) r) c.switch_in.ensures ∙ sym (ap (λ (t : Taken). t.ring) e);
      answered = c.if-number-ne-ACCEPTED.false ∙ sym (ap (λ (t : Taken). t.number) e);
    }
