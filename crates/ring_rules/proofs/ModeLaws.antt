-- What a mode leaves alone: no definition of that mode names it, so that the two sides compute to the same once the mode is known.
use Prim.Native.Nat.{ℕ, zero, suc, ◌≤◌, ◌<◌}
use mathlib.Core.Path.{◌≡◌, refl}
use mathlib.Core.List.{List}
use mathlib.Core.Bool.{true, false}
use mathlib.Core.Logic.{◌↔◌, ⊎_elim}
use Rattle.units.specs.Places.{at, sum_below}
use Rattle.units.proofs.JudgingLaws.{true_or_false}
use Rattle.units.specs.declared.Station.{Station}
use Rattle.rings.specs.State.{count, ttrt, unused_at, is_marked}
use Rattle.rings.specs.Timers.{Fddi, timers_offer, limit, token_came, time_passed, timely_after, timers_after, timely_sound, fddi_sound, timers_sound, TimersSound}
use Rattle.rings.proofs.TimerLaws.{fddi_true, fddi_false}
use Rattle.rings.specs.Sound.{is_sound}
use Rattle.rings.specs.Steps.{Ask, most_sent, sync_sent, moved, record_of, visit_number, visited_with}
use Rattle.rings.specs.HandingIn.{arrival_allowed, holding, hand_in_number, taken_with}
use Rattle.rings.specs.Marking.{mark_number, switched_through, marked_ring, withdrawal, marked_with, switched_in, unmarked_with}
use Rattle.ring_rules.specs.Promised.{with_late, with_unused, LeftAlone}
use Rattle.rings.specs.declared.Ring.{Ring}
use Rattle.rings.specs.declared.Message.{Message}

-- ---- what is asked of the timers

pub sound_timely : (r : Ring) → ¬ Fddi r.set → TimersSound r ↔ (((i : ℕ) → i < count r → at r.trt i ≤ ttrt r) × (r.unused ≡ sum_below (count r) (unused_at r)))
sound_timely r n =
    (λ s. let t = s.timely n in (t.trts, t.unused), λ t. record { timely = λ _. record { trts = t.0; unused = t.1 }; fddi = λ e. absurd (n e) })

pub sound_fddi : (r : Ring) → Fddi r.set → TimersSound r ↔ (((i : ℕ) → i < count r → at r.trt i < ttrt r) × ((i : ℕ) → i < count r → at r.late i ≤ 3))
sound_fddi r e =
    (λ s. let t = s.fddi e in (t.timers, t.lates), λ t. record { timely = λ n. absurd (n e); fddi = λ _. record { timers = t.0; lates = t.1 } })

-- ---- a timely-token ring's late counts

module _ (r : Ring) (late : List ℕ) (n : ¬ Fddi r.set) where
  late_sound : is_sound (with_late late r) ≡ is_sound r
  unfolding is_sound timers_sound timely_sound
  late_sound = rw (fddi_false r.set n) refl

  late_number : (m : Message) → hand_in_number (with_late late r) m ≡ hand_in_number r m
  unfolding arrival_allowed
  late_number m = rw late_sound refl

  late_visit : (k : ℕ) (ask : Ask) → visited_with k (with_late late r) ask ≡ record { ring = with_late late (visited_with k r ask).ring; answer = (visited_with k r ask).answer }
  unfolding visited_with moved record_of limit timers_offer most_sent sync_sent timers_after timely_after
  late_visit zero ask = rw (fddi_false r.set n) refl
  late_visit (suc k) ask = refl

  late_message : (k : ℕ) (m : Message) → taken_with k (with_late late r) m ≡ record { ring = with_late late (taken_with k r m).ring; number = (taken_with k r m).number }
  unfolding taken_with holding
  late_message zero m = refl
  late_message (suc k) m = refl

  late_mark : (k : ℕ) (s : Station) → marked_with k (with_late late r) s ≡ record { ring = with_late late (marked_with k r s).ring; answer = (marked_with k r s).answer }
  unfolding marked_with marked_ring switched_through withdrawal
  late_mark zero s = ⊎_elim (λ (e : is_marked r s.0 ≡ true). rw e refl) (λ (e : is_marked r s.0 ≡ false). rw e refl) (true_or_false (is_marked r s.0))
  late_mark (suc k) s = refl

  late_unmark : (k : ℕ) (s : Station) → unmarked_with k (with_late late r) s ≡ record { ring = with_late late (unmarked_with k r s).ring; number = (unmarked_with k r s).number }
  unfolding unmarked_with switched_in
  late_unmark zero s = refl
  late_unmark (suc k) s = refl

-- ---- an FDDI ring's u

module _ (r : Ring) (unused : ℕ) (e : Fddi r.set) where
  unused_sound_lem : is_sound (with_unused unused r) ≡ is_sound r
  unfolding is_sound timers_sound fddi_sound
  unused_sound_lem = rw (fddi_true r.set e) refl

  unused_number : (m : Message) → hand_in_number (with_unused unused r) m ≡ hand_in_number r m
  unfolding arrival_allowed
  unused_number m = rw unused_sound_lem refl

  unused_visit : (k : ℕ) (ask : Ask) → visited_with k (with_unused unused r) ask ≡ record { ring = with_unused unused (visited_with k r ask).ring; answer = (visited_with k r ask).answer }
  unfolding visited_with moved record_of limit timers_offer most_sent sync_sent timers_after time_passed token_came
  unused_visit zero ask = rw (fddi_true r.set e) refl
  unused_visit (suc k) ask = refl

  unused_message : (k : ℕ) (m : Message) → taken_with k (with_unused unused r) m ≡ record { ring = with_unused unused (taken_with k r m).ring; number = (taken_with k r m).number }
  unfolding taken_with holding
  unused_message zero m = refl
  unused_message (suc k) m = refl

  unused_mark : (k : ℕ) (s : Station) → marked_with k (with_unused unused r) s ≡ record { ring = with_unused unused (marked_with k r s).ring; answer = (marked_with k r s).answer }
  unfolding marked_with marked_ring switched_through withdrawal
  unused_mark zero s = ⊎_elim (λ (e : is_marked r s.0 ≡ true). rw e refl) (λ (e : is_marked r s.0 ≡ false). rw e refl) (true_or_false (is_marked r s.0))
  unused_mark (suc k) s = refl

  unused_unmark : (k : ℕ) (s : Station) → unmarked_with k (with_unused unused r) s ≡ record { ring = with_unused unused (unmarked_with k r s).ring; number = (unmarked_with k r s).number }
  unfolding unmarked_with switched_in
  unused_unmark zero s = refl
  unused_unmark (suc k) s = refl

-- a change that the calls pass on, whatever the number, and that the numbers do not see, is left alone
left_alone : (change : Ring → Ring) (r : Ring) → is_sound (change r) ≡ is_sound r → ((ask : Ask) → visit_number (change r) ask ≡ visit_number r ask)
    → ((m : Message) → hand_in_number (change r) m ≡ hand_in_number r m)
    → ((s : Station) → mark_number (change r) s ≡ mark_number r s)
    → ((k : ℕ) (ask : Ask) → visited_with k (change r) ask ≡ record { ring = change (visited_with k r ask).ring; answer = (visited_with k r ask).answer })
    → ((k : ℕ) (m : Message) → taken_with k (change r) m ≡ record { ring = change (taken_with k r m).ring; number = (taken_with k r m).number })
    → ((k : ℕ) (s : Station) → marked_with k (change r) s ≡ record { ring = change (marked_with k r s).ring; answer = (marked_with k r s).answer })
    → ((k : ℕ) (s : Station) → unmarked_with k (change r) s ≡ record { ring = change (unmarked_with k r s).ring; number = (unmarked_with k r s).number }) → LeftAlone change r
left_alone change r sound number numbers stations visits messages marks unmarks =
    record {
      sound = sound;
      visit = λ ask. rw (number ask, visits (visit_number r ask) ask) refl;
      visit_ring = λ ask. rw (number ask, visits (visit_number r ask) ask) refl;
      message = λ m. rw (numbers m, messages (hand_in_number r m) m) refl;
      message_ring = λ m. rw (numbers m, messages (hand_in_number r m) m) refl;
      mark = λ s. rw (stations s, marks (mark_number r s) s) refl;
      mark_ring = λ s. rw (stations s, marks (mark_number r s) s) refl;
      unmark = λ s. rw (stations s, unmarks (mark_number r s) s) refl;
      unmark_ring = λ s. rw (stations s, unmarks (mark_number r s) s) refl;
    }

pub late_alone : (r : Ring) (late : List ℕ) → ¬ Fddi r.set → LeftAlone (with_late late) r
late_alone r late n =
    let same = late_sound r late n in
    left_alone (with_late late) r same (λ ask. rw same refl) (late_number r late n) (λ s. rw same refl) (late_visit r late n) (late_message r late n)
    (late_mark r late n) (late_unmark r late n)

pub unused_alone : (r : Ring) (unused : ℕ) → Fddi r.set → LeftAlone (with_unused unused) r
unused_alone r unused e =
    let same = unused_sound_lem r unused e in
    left_alone (with_unused unused) r same (λ ask. rw same refl) (unused_number r unused e) (λ s. rw same refl) (unused_visit r unused e) (unused_message r unused e)
    (unused_mark r unused e) (unused_unmark r unused e)
