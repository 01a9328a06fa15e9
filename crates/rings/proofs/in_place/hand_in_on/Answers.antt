-- `hand_in_on` is right because its number is the definition's, soundness asked for first, and the message is held exactly if it is 0.
use Prim.Native.Nat.{ℕ}
use mathlib.Core.Path.{◌≡◌, sym, ap, ◌∙◌}
use mathlib.Core.Bool.{Bool, true}
use native.Mathlib.Omega.{arith}
use Rattle.units.proofs.JudgingLaws.{held, failed}
use Rattle.rings.specs.State.{with_messages}
use Rattle.rings.specs.Sound.{is_sound}
use Rattle.rings.specs.HandingIn.{message_number, hand_in_number, holding}
use Rattle.rings.proofs.RingLaws.{sound_sentences, sound_plan, taken_refused, taken_accepted, takes_holdable}
use Rattle.rings.specs.declared.Message.{Message}
use Rattle.rings.specs.declared.Ring.{Ring}
use Rattle.rings.specs.declared.Taken.{Taken}
use Rattle.rings.proofs.in_place.hand_in_on.Goals as goal

-- the number of a sound ring's call
number_is : (r : Ring) (m : Message) {steady : Bool} {number : ℕ} → steady ≡ is_sound r → steady ≡ true → number ≡ message_number r m → number ≡ hand_in_number r m
number_is r m said steady is = is ∙ sym (held _ _ _ (sym said ∙ steady))

pub returns-then-not-steady : goal.returns-then-not-steady
returns-then-not-steady c =
    let r = c.args.ring.now in
    let m = c.args.message in
    let eight : hand_in_number r m ≡ 8 = failed _ _ _ (sym c.sound_lent-steady.ensures ∙ c.if-not-steady.true) in
    let e = taken_refused (hand_in_number r m) r m (λ z. let bad : ◌≡◌ {A = ℕ} 8 0 = sym eight ∙ z in omega arith) in
    record { ring = sym (ap (λ (t : Taken). t.ring) e); answered = sym eight ∙ sym (ap (λ (t : Taken). t.number) e) }

pub message_number-number-requires : goal.message_number-number-requires
message_number-number-requires c =
    let r = c.args.ring.now in
    let s = sound_sentences r (sym c.sound_lent-steady.ensures ∙ c.if-not-steady.false) in
    ((sound_plan r s).0.1, s.arrivals)

pub returns-then-number-ne-ACCEPTED : goal.returns-then-number-ne-ACCEPTED
returns-then-number-ne-ACCEPTED c =
    let r = c.args.ring.now in
    let m = c.args.message in
    let same = number_is r m c.sound_lent-steady.ensures c.if-not-steady.false c.message_number-number.ensures in
    let e = taken_refused (hand_in_number r m) r m (λ z. c.if-number-ne-ACCEPTED.true (same ∙ z)) in
    record { ring = sym (ap (λ (t : Taken). t.ring) e); answered = same ∙ sym (ap (λ (t : Taken). t.number) e) }

pub hold-requires : goal.hold-requires
hold-requires c =
    let r = c.args.ring.now in
    let m = c.args.message in
    let same = number_is r m c.sound_lent-steady.ensures c.if-not-steady.false c.message_number-number.ensures in
    takes_holdable r m (sym same ∙ c.if-number-ne-ACCEPTED.false)

pub returns : goal.returns
unfolding holding
returns c =
    let r = c.args.ring.now in
    let m = c.args.message in
    let same = number_is r m c.sound_lent-steady.ensures c.if-not-steady.false c.message_number-number.ensures in
    let h = c.hold.ensures in
    let e = taken_accepted (hand_in_number r m) r m (sym same ∙ c.if-number-ne-ACCEPTED.false) in
    record {
      ring = (λ i. with_messages (record { rest = h.0 i; arrival = h.1.0 i; had = h.1.1 i; mark = r.mark }) r) ∙ sym (ap (λ (t : Taken). t.ring) e);
      answered = c.if-number-ne-ACCEPTED.false ∙ sym (ap (λ (t : Taken). t.number) e);
    }
