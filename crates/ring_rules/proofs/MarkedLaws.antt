-- A station is switched through by two stores and in again by one, and nothing else of the ring is touched; what is withdrawn is read off the ring before.
use Prim.Native.Nat.{ℕ, ◌≤◌, ◌<◌}
use mathlib.Core.Path.{◌≡◌, refl, sym, ap, ◌∙◌}
use mathlib.Core.Bool.{true, false}
use mathlib.Core.List.{List}
use mathlib.Core.Logic.{◌⊎◌, inl, inr, ◌≢◌, ◌↔◌, ⊎_elim}
use native.Mathlib.Omega.{arith}
use borrow.Author.Tests.{ltb-true, eqb-true, lt-ltb, eq-eqb}
use lib.Dec.{eqb}
use lib.ListN.{length, set, length-set}
use lib.Seq.{get_or-set_same, get_or-set_other, ext_get_or}
use Rattle.units.specs.Places.{at}
use Rattle.units.proofs.PlaceLaws.{set_each}
use Rattle.units.proofs.SmallLaws.{below_or_not}
use Rattle.units.proofs.JudgingLaws.{true_or_false, true_and, and-true}
use Rattle.units.specs.declared.Station.{Station}
use Rattle.rings.specs.State.{count, holds, Marked, Unmarked, Shaped}
use Rattle.rings.specs.Timers.{timers_after, timely_after, token_came, time_passed, timers_sound, timely_sound, fddi_sound}
use Rattle.rings.specs.Frames.{frames_from}
use Rattle.rings.proofs.FrameLaws.{frames_none}
use Rattle.rings.specs.Sound.{Sound, is_sound}
use Rattle.rings.specs.Steps.{Ask, LengthNamed, sync_sent, async_sent, moved}
use Rattle.rings.specs.HandingIn.{Known, LengthAllowed, Free, ArrivalAllowed, hand_in_number}
use Rattle.rings.proofs.TimerLaws.{marked_or_not, limit_marked, limit_unmarked, offer_fddi, offer_timely}
use Rattle.rings.proofs.RingLaws.{sound_plan, most_marked, most_unmarked, sync_most, sync_within}
use Rattle.rings.specs.Marking.{mark_number, switched_through, switched_in, withdraws, withdrawal, none_withdrawn, marked, unmarked}
use Rattle.rings.proofs.MarkLaws.{ring_marked, ring_unmarked, withdrawn, not_withdrawn, marked_refused, marked_accepted, unmarked_refused, unmarked_accepted, mark_inside}
use Rattle.rings.specs.declared.Ring.{Ring}
use Rattle.rings.specs.declared.Message.{Message}
use Rattle.rings.specs.declared.MarkedRing.{MarkedRing}
use Rattle.rings.specs.declared.Taken.{Taken}
use Rattle.rings.proofs.ShapeLaws.{messages_shaped}
use Rattle.rings.proofs.StationLaws.{equal_or_not}
use Rattle.ring_rules.specs.Promised.{SameTiming, SwitchedThrough, SwitchedIn, Withdrawn, NoneWithdrawn, NothingNew, idle, silent, with_marks}
use Rattle.ring_rules.proofs.MessageLaws.{messages_timing, messages_sound}
use Rattle.ring_rules.proofs.NumberLaws.{marked_number, unmarked_number, message_eleven}

-- a number is 0 or it is not
zero_or_not : (k : ℕ) → (k ≡ 0) ⊎ (k ≢ 0)
zero_or_not k = ⊎_elim (λ (l : 0 < k). inr (omega arith)) (λ (l : k ≤ 0). inl (omega arith)) (below_or_not 0 k)

-- a 0 that is stored over a 0 changes nothing
set_same : (xs : List ℕ) (i : ℕ) → at xs i ≡ 0 → set xs i 0 ≡ xs
set_same xs i e =
    ext_get_or 0 (set xs i 0) xs (length-set xs i 0)
    (λ j l.
    ⊎_elim (λ (q : j ≡ i). rw q (get_or-set_same xs i 0 0 (omega (arith, l, length-set xs i 0)) ∙ sym e))
    (λ (q : j ≢ i). get_or-set_other xs i j 0 0 (omega arith))
    (equal_or_not j i))

-- a sound ring's token is at one of the places
token_inside : (r : Ring) → Sound r → r.token < 128
token_inside r s = omega (arith, s.token, (sound_plan r s).0.1)

-- ---- the two rings

module _ (r : Ring) (i : ℕ) where
  module _ (L : Shaped r) (inside : i < 128) where
    pub through : SwitchedThrough r i (switched_through r i)
    unfolding switched_through
    through =
        record {
          mark = get_or-set_same r.mark i 1 0 (omega (arith, inside, L.mark));
          rest = get_or-set_same r.rest i 0 0 (omega (arith, inside, L.rest));
          marks = λ j n. get_or-set_other r.mark i j 1 0 (omega arith);
          rests = λ j n. get_or-set_other r.rest i j 0 0 (omega arith);
          arrival = refl;
          had = refl;
          timing = messages_timing r _;
          shaped = messages_shaped r L _ (length-set r.rest i 0 ∙ L.rest) L.arrival L.had (length-set r.mark i 1 ∙ L.mark);
        }

    pub back_in : SwitchedIn r i (switched_in r i)
    unfolding switched_in
    back_in =
        record {
          mark = get_or-set_same r.mark i 0 0 (omega (arith, inside, L.mark));
          marks = λ j n. get_or-set_other r.mark i j 0 0 (omega arith);
          rest = refl;
          arrival = refl;
          had = refl;
          timing = messages_timing r _;
          shaped = messages_shaped r L _ L.rest L.arrival L.had (length-set r.mark i 0 ∙ L.mark);
        }

  through_sound : Sound r → Sound (switched_through r i)
  unfolding switched_through
  through_sound s =
      messages_sound r _ s (λ j l. set_each r.rest i j 0 (λ (x : ℕ). x ≤ at r.set.c j) (s.rests j l) (λ e. omega arith)) s.arrivals

  in_sound : Sound r → Sound (switched_in r i)
  unfolding switched_in
  in_sound s = messages_sound r _ s s.rests s.arrivals

  -- what 12 looks at is not touched
  through_arrivals : (m : Message) → ArrivalAllowed (switched_through r i) m ↔ ArrivalAllowed r m
  unfolding switched_through
  through_arrivals m =
      (λ A. record { range = A.range; later = A.later; gap = A.gap }, λ A. record { range = A.range; later = A.later; gap = A.gap })

  in_stays : Unmarked r i → switched_in r i ≡ r
  unfolding switched_in
  in_stays u = rw (set_same r.mark i u) refl

  -- ---- what is withdrawn

  nothing_marked : Marked r i → withdraws r i ≡ false
  nothing_marked m =
      ⊎_elim (λ (e : withdraws r i ≡ true). let u : at r.mark i ≡ 0 = eqb-true _ _ (and-true (eqb (at r.mark i) 0) (holds r i) e).0 in absurd (omega arith))
      (λ (e : withdraws r i ≡ false). e)
      (true_or_false (withdraws r i))

  nothing_held : at r.rest i ≡ 0 → withdraws r i ≡ false
  nothing_held z =
      ⊎_elim (λ (e : withdraws r i ≡ true). let h : 0 < at r.rest i = ltb-true _ _ (and-true (eqb (at r.mark i) 0) (holds r i) e).1 in absurd (omega arith))
      (λ (e : withdraws r i ≡ false). e)
      (true_or_false (withdraws r i))

  takes : Unmarked r i → 0 < at r.rest i → Withdrawn r i (withdrawal r i)
  takes u h =
      let yes : withdraws r i ≡ true = true_and _ _ (eq-eqb _ _ u) (lt-ltb _ _ h) in
      rw (withdrawn r i yes) (record { flag = refl; rest = refl; arrival = refl })

  takes_none : withdraws r i ≡ false → NoneWithdrawn (withdrawal r i)
  takes_none h = rw (not_withdrawn r i h) (record { flag = refl; rest = refl; arrival = refl })

-- ---- the answers

module _ (r : Ring) (s : Station) where
  pub number_marked : (marked r s).answer.number ≡ mark_number r s
  number_marked = marked_number (mark_number r s) r s

  pub number_unmarked : (unmarked r s).number ≡ mark_number r s
  number_unmarked = unmarked_number (mark_number r s) r s

  mark_goes : (marked r s).answer.number ≡ 0 → mark_number r s ≡ 0
  mark_goes e = sym number_marked ∙ e

  unmark_goes : (unmarked r s).number ≡ 0 → mark_number r s ≡ 0
  unmark_goes e = sym number_unmarked ∙ e

  refused : (marked r s).answer.number ≢ 0 → marked r s ≡ record { ring = r; answer = none_withdrawn (mark_number r s) }
  refused n = marked_refused (mark_number r s) r s (λ e. n (number_marked ∙ e))

  pub mark_unchanged : (marked r s).answer.number ≢ 0 → ((marked r s).ring ≡ r) × NoneWithdrawn (marked r s).answer
  mark_unchanged n = rw (refused n) (refl, record { flag = refl; rest = refl; arrival = refl })

  answer_is : (marked r s).answer.number ≡ 0 → (marked r s).answer ≡ withdrawal r s.0
  answer_is e = ap (λ (x : MarkedRing). x.answer) (marked_accepted (mark_number r s) r s (mark_goes e))

  pub ring_through : (marked r s).answer.number ≡ 0 → Unmarked r s.0 → (marked r s).ring ≡ switched_through r s.0
  ring_through e u = ap (λ (x : MarkedRing). x.ring) (marked_accepted (mark_number r s) r s (mark_goes e)) ∙ ring_unmarked r s.0 u

  ring_stays : (marked r s).answer.number ≡ 0 → Marked r s.0 → (marked r s).ring ≡ r
  ring_stays e m = ap (λ (x : MarkedRing). x.ring) (marked_accepted (mark_number r s) r s (mark_goes e)) ∙ ring_marked r s.0 m

  pub ring_in : (unmarked r s).number ≡ 0 → (unmarked r s).ring ≡ switched_in r s.0
  ring_in e = ap (λ (x : Taken). x.ring) (unmarked_accepted (mark_number r s) r s (unmark_goes e))

  pub mark_switches : Shaped r → (marked r s).answer.number ≡ 0 → Unmarked r s.0 → SwitchedThrough r s.0 (marked r s).ring
  mark_switches L e u = rw (ring_through e u) (through r s.0 L (mark_inside r s (mark_goes e)))

  pub mark_withdraws : (marked r s).answer.number ≡ 0 → Unmarked r s.0 → 0 < at r.rest s.0 → Withdrawn r s.0 (marked r s).answer
  mark_withdraws e u h = rw (answer_is e) (takes r s.0 u h)

  -- nothing is withdrawn where nothing can be
  none_taken : withdraws r s.0 ≡ false → NoneWithdrawn (marked r s).answer
  none_taken h =
      ⊎_elim (λ (e : (marked r s).answer.number ≡ 0). rw (answer_is e) (takes_none r s.0 h))
      (λ (n : (marked r s).answer.number ≢ 0). (mark_unchanged n).1)
      (zero_or_not (marked r s).answer.number)

  pub mark_takes_none : at r.rest s.0 ≡ 0 → NoneWithdrawn (marked r s).answer
  mark_takes_none z = none_taken (nothing_held r s.0 z)

  pub mark_stays : Marked r s.0 → ((marked r s).ring ≡ r) × NoneWithdrawn (marked r s).answer
  mark_stays m =
      let ring : (marked r s).ring ≡ r =
      ⊎_elim (λ (e : (marked r s).answer.number ≡ 0). ring_stays e m)
      (λ (n : (marked r s).answer.number ≢ 0). (mark_unchanged n).0)
      (zero_or_not (marked r s).answer.number) in
      (ring, none_taken (nothing_marked r s.0 m))

  -- the ring is as it was, or the station is switched through
  pub mark_either : ((marked r s).ring ≡ r) ⊎ (((marked r s).answer.number ≡ 0) × (Unmarked r s.0 × ((marked r s).ring ≡ switched_through r s.0)))
  mark_either =
      ⊎_elim (λ (e : (marked r s).answer.number ≡ 0).
      ⊎_elim (λ (m : Marked r s.0). inl (ring_stays e m)) (λ (u : Unmarked r s.0). inr (e, (u, ring_through e u))) (marked_or_not r s.0))
      (λ (n : (marked r s).answer.number ≢ 0). inl (mark_unchanged n).0)
      (zero_or_not (marked r s).answer.number)

  -- as it was, or the station is switched in again
  pub unmark_either : ((unmarked r s).ring ≡ r) ⊎ (((unmarked r s).number ≡ 0) × ((unmarked r s).ring ≡ switched_in r s.0))
  unmark_either =
      ⊎_elim (λ (e : (unmarked r s).number ≡ 0). inr (e, ring_in e))
      (λ (n : (unmarked r s).number ≢ 0). inl (ap (λ (x : Taken). x.ring) (unmarked_refused (mark_number r s) r s (λ e. n (number_unmarked ∙ e)))))
      (zero_or_not (unmarked r s).number)

  pub mark_sound : Sound r → Sound (marked r s).ring
  mark_sound sound = ⊎_elim (λ e. rw e sound) (λ e. rw e.1.1 (through_sound r s.0 sound)) mark_either

  pub unmark_sound : Sound r → Sound (unmarked r s).ring
  unmark_sound sound = ⊎_elim (λ e. rw e sound) (λ e. rw e.1 (in_sound r s.0 sound)) unmark_either

  pub mark_arrivals : (m : Message) → ArrivalAllowed (marked r s).ring m ↔ ArrivalAllowed r m
  mark_arrivals m = ⊎_elim (λ e. rw e (λ A. A, λ A. A)) (λ e. rw e.1.1 (through_arrivals r s.0 m)) mark_either

  pub unmark_unchanged : (unmarked r s).number ≢ 0 → (unmarked r s).ring ≡ r
  unmark_unchanged n = ⊎_elim (λ e. e) (λ e. absurd (n e.0)) unmark_either

  pub unmark_switches : Shaped r → (unmarked r s).number ≡ 0 → SwitchedIn r s.0 (unmarked r s).ring
  unmark_switches L e = rw (ring_in e) (back_in r s.0 L (mark_inside r s (unmark_goes e)))

  pub unmark_stays : Unmarked r s.0 → (unmarked r s).ring ≡ r
  unmark_stays u = ⊎_elim (λ e. e) (λ e. e.1 ∙ in_stays r s.0 u) unmark_either

-- a marking that is accepted leaves its station marked, and one that is refused is refused again
pub mark_twice : (r : Ring) (s : Station) → Shaped r → ((marked (marked r s).ring s).ring ≡ (marked r s).ring) × NoneWithdrawn (marked (marked r s).ring s).answer
mark_twice r s L =
    ⊎_elim (λ (e : (marked r s).answer.number ≡ 0).
    let on : Marked (marked r s).ring s.0 =
    ⊎_elim (λ (m : Marked r s.0). rw (ring_stays r s e m) m)
    (λ (u : Unmarked r s.0). omega (arith, (mark_switches r s L e u).mark))
    (marked_or_not r s.0) in
    mark_stays (marked r s).ring s on)
    (λ (n : (marked r s).answer.number ≢ 0). rw (mark_unchanged r s n).0 (mark_unchanged r s n))
    (zero_or_not (marked r s).answer.number)

-- ---- while a station is marked, and where none is

pub marked_eleven : (r : Ring) (m : Message) → Sound r → Known r m → LengthAllowed r m → Marked r m.station.0 → hand_in_number r m ≡ 11
marked_eleven r m sound known length on =
    (message_eleven r m).1 (sound, (known, (length, λ (f : Free r m). let u : at r.mark m.station.0 ≡ 0 = f.1 in absurd (omega arith))))

-- nothing is sent at the marked station's visit, and nothing at the idle one's; what then moves is not what a mark or a message is
module _ (r : Ring) (ask : Ask) (L : Shaped r) (sound : Sound r) (named : LengthNamed r ask) where
  idle_shaped : Shaped (idle r)
  idle_shaped =
      let inside = token_inside r sound in
      (back_in (switched_through r r.token) r.token (through r r.token L inside).shaped inside).shaped

  pub idle_sound : Sound (idle r)
  idle_sound = in_sound (switched_through r r.token) r.token (through_sound r r.token sound)

  pub idle_named : LengthNamed (idle r) (silent ask)
  unfolding switched_through switched_in
  idle_named = named

  pub idle_clock : (idle r).clock ≡ r.clock
  unfolding switched_through switched_in
  idle_clock = refl

  idle_async : async_sent (idle r) (silent ask) ≡ 0
  unfolding frames_from
  idle_async = omega arith

  idle_sync : (async : ℕ) → sync_sent (idle r) async ≡ 0
  unfolding switched_through switched_in
  idle_sync async =
      let none : at (idle r).rest r.token ≡ 0 = get_or-set_same r.rest r.token 0 0 (omega (arith, token_inside r sound, L.rest)) in
      omega (arith, none, (sync_within (idle r) async).1)

  module _ (on : Marked r r.token) where
    marked_async : async_sent r ask ≡ 0
    marked_async = rw (limit_marked r on) (frames_none ask)

    marked_sync : (async : ℕ) → sync_sent r async ≡ 0
    marked_sync async = omega (arith, (sync_most r async).0, most_marked r on)

    pub walks_alike : SameTiming (moved (idle r) (sync_sent (idle r) (async_sent (idle r) (silent ask))) (async_sent (idle r) (silent ask))) (moved r (sync_sent r (async_sent r ask)) (async_sent r ask))
    unfolding moved switched_through switched_in timers_after timely_after token_came time_passed
    walks_alike =
        rw (idle_async, idle_sync 0, marked_async, marked_sync 0)
        (record {
          set = refl;
          alloc = refl;
          trt = refl;
          late = refl;
          sent = refl;
          last = refl;
          clock = refl;
          visits = refl;
          token = refl;
          unused = refl;
        })

pub sound_marks : (r : Ring) (marks : List ℕ) → is_sound (with_marks marks r) ≡ is_sound r
unfolding is_sound timers_sound timely_sound fddi_sound
sound_marks r marks = refl

pub nothing_new : (r : Ring) → r.token < count r → ((i : ℕ) → i < count r → Unmarked r i) → NothingNew r
nothing_new r token none =
    let here = none r.token token in
    record {
      limit_timely = λ n. limit_unmarked r here ∙ offer_timely r n;
      limit_fddi = λ e. limit_unmarked r here ∙ offer_fddi r e;
      most = most_unmarked r here;
      free = λ m known. (λ f. f.0, λ z. (z, none m.station.0 known));
    }
