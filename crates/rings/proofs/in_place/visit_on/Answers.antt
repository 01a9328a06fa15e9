-- `visit_on` is right because it asks for the definition's number, and where that is 0 moves by the definition's two amounts.
use Prim.Native.Nat.{ℕ, ◌+◌, ◌<◌, ◌^◌}
use mathlib.Core.Path.{◌≡◌, refl, sym, ap, subst, ◌∙◌}
use mathlib.Core.Bool.{Bool}
use native.Mathlib.Omega.{arith}
use lib.ListN.{set}
use Rattle.rings.specs.Sound.{is_sound}
use Rattle.rings.specs.Steps.{Ask, LengthNamed, length_named, async_sent, blank_record, first_refusal, visit_number}
use Rattle.rings.specs.Bounds.{Safe, SafeTimers}
use Rattle.rings.specs.Views.{view_of, point_of, MovesOf}
use Rattle.rings.proofs.RingLaws.{visit_passed, visit_refused, visit_safe}
use Rattle.rings.specs.declared.Ring.{Ring}
use Rattle.rings.specs.declared.Visited.{Visited}
use Rattle.rings.specs.declared.view.View.{View}
use Rattle.rings.specs.declared.steps.Moves.{Moves}
use Rattle.rings.proofs.ViewLaws.{Moving, moving, safe_seen, safe_timers_seen, timers_moved, ring_moved, visit_done}
use Rattle.rings.proofs.in_place.visit_on.Goals as goal

-- the number that is asked for is the visit's
number_is : (r : Ring) (ask : Ask) {steady named : Bool} {number : ℕ} → steady ≡ is_sound r → named ≡ length_named r ask → number ≡ first_refusal steady named r.clock → number ≡ visit_number r ask
number_is r ask sound length is = is ∙ (λ i. first_refusal (sound i) (length i) r.clock)

-- and where it is 0, so is the visit's
none_is : (r : Ring) (ask : Ask) {steady named : Bool} {number : ℕ} → steady ≡ is_sound r → named ≡ length_named r ask → number ≡ first_refusal steady named r.clock → number ≡ 0 → visit_number r ask ≡ 0
none_is r ask sound length is zero = sym (number_is r ask sound length is) ∙ zero

-- the moves of the numbers seen are those of the ring
moves_seen : (r : Ring) (ask : Ask) (m : Moves) {seen : View} → seen ≡ view_of r → MovesOf seen r.token ask m → Moving r ask m
moves_seen r ask m same told = moving r ask m (subst (λ (v : View). MovesOf v r.token ask m) same told)

pub returns-then-number-ne-ACCEPTED : goal.returns-then-number-ne-ACCEPTED
returns-then-number-ne-ACCEPTED c =
    let r = c.args.ring.now in
    let ask = c.args.ask in
    let same = number_is r ask c.sound_lent-steady.ensures c.length_fits-named.ensures c.first_refusal-number.ensures in
    let e = visit_refused (visit_number r ask) r ask (λ z. c.if-number-ne-ACCEPTED.true (same ∙ z)) in
    record {
      ring = sym (ap (λ (x : Visited). x.ring) e);
      answered = c.refused.ensures ∙ (λ i. record { «record» = blank_record; number = same i }) ∙ sym (ap (λ (x : Visited). x.answer) e);
    }

pub view_of-view-requires : goal.view_of-view-requires
view_of-view-requires c =
    let r = c.args.ring.now in
    let none = none_is r c.args.ask c.sound_lent-steady.ensures c.length_fits-named.ensures c.first_refusal-number.ensures c.if-number-ne-ACCEPTED.false in
    let s = (visit_safe r c.args.ask none).0 in
    omega (arith, s.token, s.few)

pub moves_of-moves-requires : goal.moves_of-moves-requires
moves_of-moves-requires c =
    let r = c.args.ring.now in
    let ask = c.args.ask in
    let none = none_is r ask c.sound_lent-steady.ensures c.length_fits-named.ensures c.first_refusal-number.ensures c.if-number-ne-ACCEPTED.false in
    let s = visit_safe r ask none in
    subst (λ (v : View). Safe (point_of v) × SafeTimers (point_of v) × LengthNamed (point_of v) ask) (sym c.view_of-view.ensures)
    (safe_seen r s.0, safe_timers_seen r s.0 s.1, (visit_passed r ask none).1.0)

pub move_timers-requires : goal.move_timers-requires
move_timers-requires c =
    let r = c.args.ring.now in
    let none = none_is r c.args.ask c.sound_lent-steady.ensures c.length_fits-named.ensures c.first_refusal-number.ensures c.if-number-ne-ACCEPTED.false in
    let s = (visit_safe r c.args.ask none).0 in
    let m = moves_seen r c.args.ask c.moves_of-moves.result c.view_of-view.ensures c.moves_of-moves.ensures in
    let short : c.moves_of-moves.result.rise < 2 ^ 32 = omega (arith, m.rise, m.sendable.short, s.rotation) in
    record { few = s.few; inside = omega (arith, s.token, s.few); rises = short; own = omega (arith, m.since, m.rise, short) }

pub store-requires : goal.store-requires
store-requires c =
    let r = c.args.ring.now in
    let none = none_is r c.args.ask c.sound_lent-steady.ensures c.length_fits-named.ensures c.first_refusal-number.ensures c.if-number-ne-ACCEPTED.false in
    let s = (visit_safe r c.args.ask none).0 in
    let m = moves_seen r c.args.ask c.moves_of-moves.result c.view_of-view.ensures c.moves_of-moves.ensures in
    (omega (arith, s.token, s.few), (omega (arith, m.sendable.allotted, s.allotted, s.rotation), m.sendable.rest))

pub next_token-ring-requires : goal.next_token-ring-requires
next_token-ring-requires c =
    let r = c.args.ring.now in
    let none = none_is r c.args.ask c.sound_lent-steady.ensures c.length_fits-named.ensures c.first_refusal-number.ensures c.if-number-ne-ACCEPTED.false in
    (visit_safe r c.args.ask none).0.token

pub overflow_add-ring : goal.overflow_add-ring
overflow_add-ring c =
    let r = c.args.ring.now in
    let none = none_is r c.args.ask c.sound_lent-steady.ensures c.length_fits-named.ensures c.first_refusal-number.ensures c.if-number-ne-ACCEPTED.false in
    let s = (visit_safe r c.args.ask none).0 in
    let m = moves_seen r c.args.ask c.moves_of-moves.result c.view_of-view.ensures c.moves_of-moves.ensures in
    record { fits = omega (arith, s.clock, m.rise, m.sendable.short, s.rotation) }

pub overflow_add-ring-2 : goal.overflow_add-ring-2
overflow_add-ring-2 c =
    let r = c.args.ring.now in
    let none = none_is r c.args.ask c.sound_lent-steady.ensures c.length_fits-named.ensures c.first_refusal-number.ensures c.if-number-ne-ACCEPTED.false in
    let s = (visit_safe r c.args.ask none).0 in
    record { fits = omega (arith, s.visits) }

pub returns : goal.returns
returns c =
    let r = c.args.ring.now in
    let ask = c.args.ask in
    let none = none_is r ask c.sound_lent-steady.ensures c.length_fits-named.ensures c.first_refusal-number.ensures c.if-number-ne-ACCEPTED.false in
    let s = visit_safe r ask none in
    let y = c.moves_of-moves.result in
    let m = moves_seen r ask y c.view_of-view.ensures c.moves_of-moves.ensures in
    let async = async_sent r ask in
    let h = c.store.ensures in
    let timers = timers_moved r y.sync async y.rise y.since y.unused _ _ m.rise m.since c.move_timers.ensures s.0 s.1 m.sendable m.unused_fddi m.unused_timely in
    let next = ring_moved r y.sync async _ _ _ _ _ _ _ _ y.unused timers h.0 h.1.0 (h.1.1 ∙ ap (λ (x : ℕ). set r.last r.token x) m.start) c.next_token-ring.ensures (ap (λ (x : ℕ). r.clock + x) m.rise) refl in
    let e = visit_done r ask y.sync _ _ _ none m.sync next m.told c.if-number-ne-ACCEPTED.false in
    record { ring = ap (λ (x : Visited). x.ring) e; answered = ap (λ (x : Visited). x.answer) e }
