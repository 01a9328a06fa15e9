-- The laws of rings, for the proofs of this layer and those above.
use Prim.Native.Nat.{ℕ, zero, suc, ◌+◌, ◌-◌, ◌^◌, ◌≤◌, ◌<◌, min}
use mathlib.Core.Path.{◌≡◌, refl, sym, ap, ◌∙◌}
use mathlib.Core.Bool.{Bool, true, false, ◌||◌, false≢true}
use mathlib.Core.List.{◌∷◌}
use mathlib.Core.Logic.{◌≢◌, ⊎_elim}
use native.Mathlib.Omega.{arith}
use borrow.Author.Tests.{leb-true, ltb-true, eqb-true, eqb-false, le-leb, lt-ltb, le-ltb, eq-eqb}
use lib.IntN.{pos, sub_ℕ, ◌-ℤ◌}
use mir.Syntax.{w64}
use mir.Val.{SFits}
use Rattle.units.proofs.SmallLaws.{below_or_not}
use lib.Dec.{leb, ltb}
use Rattle.units.specs.Numbers.{most_clock}
use Rattle.units.specs.Places.{at, sum_below}
use Rattle.units.proofs.PlaceLaws.{all_at, all_of, decides_all, sum_part_lem, sum_mono}
use Rattle.units.proofs.JudgingLaws.{true_or_false, decides_le, decides_both, decides_between, pick, all_hold_lem, none_hold, held, failed, passed}
use Rattle.units.specs.Judging.{Decides}
use Rattle.sets.specs.Rules.{tau, CountAllowed, NumbersAllowed, WalkTimeAllowed}
use Rattle.plans.specs.Rules.{MeetsRules, AllocInRange}
use Rattle.plans.proofs.PlanLaws.{given_none}
use Rattle.rings.specs.State.{count, ttrt, overrun, share, unused_at, before_first_visit, before_first_message, Marked, Unmarked, blank_ring}
use Rattle.rings.specs.Opening.{opened_with}
use Rattle.rings.specs.Timers.{Fddi, most_late, TimelySound, FddiSound, TimersSound, trt_sound_at, unused_sound, timer_sound_at, late_sound_at, timely_sound, fddi_sound, timers_sound}
use Rattle.rings.proofs.TimerLaws.{fddi_or_not, fddi_true, fddi_false, marked_true, marked_false, marked_or_not}
use Rattle.rings.specs.Sound.{Sound, sent_sound_at, rest_sound_at, arrival_sound_at, plan_sound, number_tests, is_sound}
use Rattle.rings.specs.Steps.{Ask, LengthNamed, length_named, serves, most_sent, sync_sent, visit_number, refused_visit, accepted_visit, visited_with}
use Rattle.rings.specs.HandingIn.{Free, ArrivalAllowed, Takes, station_known, length_allowed, station_free, has_arrived, arrival_in_range, later_than_last_start, gap_kept, arrival_allowed, hand_in_number, holding, message_number, taken_with}
use Rattle.rings.specs.Bounds.{Safe, SafeTimely, SafeTimers, Holdable}
use Rattle.rings.specs.declared.Ring.{Ring}
use Rattle.rings.specs.declared.Message.{Message}

-- ---- soundness

-- the timers' test decides their sentence, in each mode
decides_timely : (r : Ring) → Decides (timely_sound r) (TimelySound r)
unfolding timely_sound
decides_timely r =
    let trts = decides_all (count r) (trt_sound_at r) (λ i. at r.trt i ≤ ttrt r) (λ i. decides_le (at r.trt i) (ttrt r)) in
    let both = decides_both _ (unused_sound r) _ _ trts (eqb-true _ _, eq-eqb _ _) in
    (λ h. let f = both.0 h in record { trts = f.0; unused = f.1 }, λ s. both.1 (s.trts, s.unused))

decides_fddi : (r : Ring) → Decides (fddi_sound r) (FddiSound r)
unfolding fddi_sound
decides_fddi r =
    let timers = decides_all (count r) (timer_sound_at r) (λ i. at r.trt i < ttrt r) (λ i. (ltb-true _ _, lt-ltb _ _)) in
    let lates = decides_all (count r) (late_sound_at r) (λ i. at r.late i ≤ most_late) (λ i. decides_le (at r.late i) most_late) in
    let both = decides_both _ _ _ _ timers lates in
    (λ h. let f = both.0 h in record { timers = f.0; lates = f.1 }, λ s. both.1 (s.timers, s.lates))

pub decides_timers : (r : Ring) → Decides (timers_sound r) (TimersSound r)
unfolding timers_sound
decides_timers r =
    ⊎_elim (λ (e : Fddi r.set).
    rw (fddi_true r.set e) (λ h. record { timely = λ n. absurd (n e); fddi = λ _. (decides_fddi r).0 h }, λ s. (decides_fddi r).1 (s.fddi e)))
    (λ (n : ¬ Fddi r.set).
    rw (fddi_false r.set n) (λ h. record { timely = λ _. (decides_timely r).0 h; fddi = λ e. absurd (n e) }, λ s. (decides_timely r).1 (s.timely n)))
    (fddi_or_not r.set)

-- the tests decide the sentences
pub sound_sentences : (r : Ring) → is_sound r ≡ true → Sound r
unfolding is_sound
sound_sentences r h =
    let tests = plan_sound r ∷ number_tests r in
    record {
      plan = eqb-true _ _ (pick tests 0 h);
      token = ltb-true _ _ (pick tests 1 h);
      timers = (decides_timers r).0 (pick tests 2 h);
      sents = λ i l. leb-true _ _ (all_at (count r) (sent_sound_at r) (pick tests 3 h) i l);
      rests = λ i l. leb-true _ _ (all_at (count r) (rest_sound_at r) (pick tests 4 h) i l);
      arrivals = λ i l. leb-true _ _ (all_at (count r) (arrival_sound_at r) (pick tests 5 h) i l);
      clock = leb-true _ _ (pick tests 6 h);
      visits = ltb-true _ _ (pick tests 7 h);
    }

pub sound_tests : (r : Ring) → Sound r → is_sound r ≡ true
unfolding is_sound
sound_tests r s =
    all_hold_lem _ _ (eq-eqb _ _ s.plan)
    (all_hold_lem _ _ (lt-ltb _ _ s.token)
    (all_hold_lem _ _ ((decides_timers r).1 s.timers)
    (all_hold_lem _ _ (all_of (count r) (sent_sound_at r) (λ i l. le-leb _ _ (s.sents i l)))
    (all_hold_lem _ _ (all_of (count r) (rest_sound_at r) (λ i l. le-leb _ _ (s.rests i l)))
    (all_hold_lem _ _ (all_of (count r) (arrival_sound_at r) (λ i l. le-leb _ _ (s.arrivals i l)))
    (all_hold_lem _ _ (le-leb _ _ s.clock) (all_hold_lem _ _ (lt-ltb _ _ s.visits) none_hold)))))))

pub decides_sound : (r : Ring) → Decides (is_sound r) (Sound r)
decides_sound r = (sound_sentences r, sound_tests r)

-- what the set and the allocation of a sound ring keep
pub sound_plan : (r : Ring) → Sound r
    → CountAllowed r.set × ((NumbersAllowed r.set × AllocInRange r.set (at r.alloc.s)) × (WalkTimeAllowed r.set × MeetsRules r.set (at r.alloc.s)))
sound_plan r s = (given_none r.set r.alloc).0 s.plan

-- ---- a sound ring's numbers are small

-- u of a timely-token ring is at most the sum of S, so u + τ + (F − 1) at most TTRT
pub unused_small : (r : Ring) → Sound r → ¬ Fddi r.set → r.unused + tau r.set + overrun r ≤ ttrt r
unused_small r s n =
    let kept = sound_plan r s in
    let less : sum_below (count r) (unused_at r) ≤ sum_below (count r) (at r.alloc.s) = sum_mono (count r) (unused_at r) (at r.alloc.s) (λ i l. omega arith) in
    omega (arith, (s.timers.timely n).unused, kept.1.1.1.token)

-- S at one station, τ and F − 1 are at most TTRT
pub share_small : (r : Ring) → Sound r → (i : ℕ) → i < count r → share r i + tau r.set + overrun r ≤ ttrt r
share_small r s i l = omega (arith, sum_part_lem (count r) (at r.alloc.s) i l, (sound_plan r s).1.1.1.token)

-- w is at most τ
pub walk_small : (r : Ring) (i : ℕ) → i < count r → at r.set.w i ≤ tau r.set
walk_small r i l = sum_part_lem (count r) (at r.set.w) i l

pub safe : (r : Ring) → Sound r → r.clock ≤ most_clock → Safe r
safe r s c =
    let kept = sound_plan r s in
    let p = r.token in
    let head = kept.1.0.0.header in
    let station = kept.1.0.0.stations p s.token in
    let walk : at r.set.w p ≤ tau r.set = walk_small r p s.token in
    let most : share r p + tau r.set + overrun r ≤ ttrt r = share_small r s p s.token in
    record {
      few = kept.0.1;
      token = s.token;
      rotation = head.ttrt.1;
      allotted = omega arith;
      sent = s.sents p s.token;
      deadline = station.deadline.1;
      arrival = s.arrivals p s.token;
      clock = c;
      visits = s.visits;
    }

safe_timely : (r : Ring) → Sound r → ¬ Fddi r.set → SafeTimely r
safe_timely r s n =
    let timers = s.timers.timely n in
    let own : unused_at r r.token ≤ sum_below (count r) (unused_at r) = sum_part_lem (count r) (unused_at r) r.token s.token in
    record { trts = timers.trts; old = omega (arith, timers.unused); unused = omega (arith, unused_small r s n) }

pub safe_timers : (r : Ring) → Sound r → SafeTimers r
safe_timers r s = record { timely = safe_timely r s; fddi = s.timers.fddi }

-- ---- the answers, number by number

pub opened_refused : (k : ℕ) (r : Ring) → k ≢ 0 → opened_with k r ≡ record { ring = blank_ring; number = k }
unfolding opened_with
opened_refused zero r h = absurd (h refl)
opened_refused (suc k) r h = refl

pub opened_accepted : (k : ℕ) (r : Ring) → k ≡ 0 → opened_with k r ≡ record { ring = r; number = 0 }
unfolding opened_with
opened_accepted k r h = rw h

pub opened_number : (k : ℕ) (r : Ring) → (opened_with k r).number ≡ k
unfolding opened_with
opened_number zero r = refl
opened_number (suc k) r = refl

pub visit_refused : (k : ℕ) (r : Ring) (ask : Ask) → k ≢ 0 → visited_with k r ask ≡ refused_visit r k
unfolding visited_with
visit_refused zero r ask h = absurd (h refl)
visit_refused (suc k) r ask h = refl

pub visit_accepted : (k : ℕ) (r : Ring) (ask : Ask) → k ≡ 0 → visited_with k r ask ≡ accepted_visit r ask
unfolding visited_with
visit_accepted k r ask h = rw h

pub taken_refused : (k : ℕ) (r : Ring) (m : Message) → k ≢ 0 → taken_with k r m ≡ record { ring = r; number = k }
unfolding taken_with
taken_refused zero r m h = absurd (h refl)
taken_refused (suc k) r m h = refl

pub taken_number : (k : ℕ) (r : Ring) (m : Message) → (taken_with k r m).number ≡ k
unfolding taken_with
taken_number zero r m = refl
taken_number (suc k) r m = refl

pub taken_accepted : (k : ℕ) (r : Ring) (m : Message) → k ≡ 0 → taken_with k r m ≡ record { ring = holding r m; number = 0 }
unfolding taken_with
taken_accepted k r m h = rw h

-- ---- what is sent of the held message

-- a marked station sends nothing, any other at most S
pub most_marked : (r : Ring) → Marked r r.token → most_sent r ≡ 0
unfolding most_sent
most_marked r m = rw (marked_true r r.token m)

pub most_unmarked : (r : Ring) → Unmarked r r.token → most_sent r ≡ share r r.token
unfolding most_sent
most_unmarked r u = rw (marked_false r r.token u)

pub most_within : (r : Ring) → most_sent r ≤ share r r.token
most_within r =
    ⊎_elim (λ (m : Marked r r.token). omega (arith, most_marked r m)) (λ (u : Unmarked r r.token). omega (arith, most_unmarked r u)) (marked_or_not r r.token)

pub served : (r : Ring) (async : ℕ) → serves r async ≡ true → sync_sent r async ≡ min (most_sent r) (at r.rest r.token)
unfolding sync_sent
served r async h = rw h

pub not_served : (r : Ring) (async : ℕ) → serves r async ≡ false → sync_sent r async ≡ 0
unfolding sync_sent
not_served r async h = rw h

-- what is sent of a message is within that most, and so within S, and within what remains
pub sync_most : (r : Ring) (async : ℕ) → (sync_sent r async ≤ most_sent r) × (sync_sent r async ≤ at r.rest r.token)
sync_most r async =
    ⊎_elim (λ (e : serves r async ≡ true). let s = served r async e in (omega arith, omega arith))
    (λ (e : serves r async ≡ false). let s = not_served r async e in (omega arith, omega arith))
    (true_or_false (serves r async))

pub sync_within : (r : Ring) (async : ℕ) → (sync_sent r async ≤ share r r.token) × (sync_sent r async ≤ at r.rest r.token)
sync_within r async = (omega (arith, (sync_most r async).0, most_within r), (sync_most r async).1)

-- ---- the numbers of a visit

module _ (r : Ring) (ask : Ask) where
  -- an accepted visit's ring is sound, the length that is asked for is 1 to F, and its clock is one at which a visit may start
  pub visit_passed : visit_number r ask ≡ 0 → Sound r × (LengthNamed r ask × (r.clock ≤ most_clock))
  visit_passed h =
      let p₈ = passed (is_sound r) 8 _ (omega arith) h in
      let p₁₀ = passed (length_named r ask) 10 _ (omega arith) p₈.1 in
      let p₁₃ = passed (leb r.clock most_clock) 13 0 (omega arith) p₁₀.1 in
      (sound_sentences r p₈.0, ((decides_between 1 _ _).0 p₁₀.0, leb-true _ _ p₁₃.0))

  pub visit_safe : visit_number r ask ≡ 0 → Safe r × SafeTimers r
  visit_safe h = (safe r (visit_passed h).0 (visit_passed h).1.1, safe_timers r (visit_passed h).0)

-- ---- the numbers of a handing in

module _ (r : Ring) (m : Message) where
  pub message_9 : station_known r m ≡ false → message_number r m ≡ 9
  message_9 h₉ = failed _ _ _ h₉

  pub message_10 : station_known r m ≡ true → length_allowed r m ≡ false → message_number r m ≡ 10
  message_10 h₉ h₁₀ = held _ _ _ h₉ ∙ failed _ _ _ h₁₀

  pub message_11 : station_known r m ≡ true → length_allowed r m ≡ true → station_free r m ≡ false → message_number r m ≡ 11
  message_11 h₉ h₁₀ h₁₁ = held _ _ _ h₉ ∙ held _ _ _ h₁₀ ∙ failed _ _ _ h₁₁

  pub message_15 : station_known r m ≡ true → length_allowed r m ≡ true → station_free r m ≡ true → has_arrived r m ≡ false → message_number r m ≡ 15
  message_15 h₉ h₁₀ h₁₁ h₁₅ = held _ _ _ h₉ ∙ held _ _ _ h₁₀ ∙ held _ _ _ h₁₁ ∙ failed _ _ _ h₁₅

  pub message_12 : station_known r m ≡ true → length_allowed r m ≡ true → station_free r m ≡ true → has_arrived r m ≡ true → arrival_allowed r m ≡ false → message_number r m ≡ 12
  message_12 h₉ h₁₀ h₁₁ h₁₅ h₁₂ = held _ _ _ h₉ ∙ held _ _ _ h₁₀ ∙ held _ _ _ h₁₁ ∙ held _ _ _ h₁₅ ∙ failed _ _ _ h₁₂

  pub message_0 : station_known r m ≡ true → length_allowed r m ≡ true → station_free r m ≡ true → has_arrived r m ≡ true → arrival_allowed r m ≡ true → message_number r m ≡ 0
  message_0 h₉ h₁₀ h₁₁ h₁₅ h₁₂ = held _ _ _ h₉ ∙ held _ _ _ h₁₀ ∙ held _ _ _ h₁₁ ∙ held _ _ _ h₁₅ ∙ held _ _ _ h₁₂

-- each test decides its sentence

decides_or : (a b : Bool) (P Q : Type 0) → Decides a (¬ P) → Decides b Q → Decides (a || b) (P → Q)
decides_or true b P Q d e = (λ _ p. absurd (d.0 refl p), λ _. refl)
decides_or false b P Q d e = (λ h _. e.0 h, λ f. ⊎_elim (λ x. x) (λ x. absurd (false≢true (d.1 (λ p. false≢true (sym x ∙ e.1 (f p)))))) (true_or_false b))

pub decides_arrival : (r : Ring) (m : Message) → Decides (arrival_allowed r m) (ArrivalAllowed r m)
unfolding arrival_allowed
decides_arrival r m =
    let i = m.station.0 in
    let a = m.arrival.0 in
    let later = decides_or (before_first_visit r i) (ltb (at r.last i) a) (i < r.visits) (at r.last i < a)
    (λ h l. let n : r.visits ≤ i = leb-true _ _ h in omega arith, λ h. le-leb _ _ (⊎_elim (λ (l : i < r.visits). absurd (h l)) (λ l. l) (below_or_not i r.visits)))
    (ltb-true _ _, lt-ltb _ _) in
    let gap = decides_or (before_first_message r i) (leb (at r.arrival i + at r.set.p i) a) (at r.had i ≢ 0) (at r.arrival i + at r.set.p i ≤ a)
    (λ h n. n (eqb-true _ _ h), λ h. ⊎_elim (λ x. x) (λ x. absurd (h (eqb-false _ _ x))) (true_or_false (before_first_message r i))) (decides_le _ _) in
    let first = decides_both (arrival_in_range m) (later_than_last_start r m) _ _ (decides_le a most_clock) later in
    let all = decides_both _ (gap_kept r m) _ _ first gap in (
      λ h. let f = all.0 h in record { range = f.0.0; later = f.0.1; gap = f.1 },
      λ f. all.1 ((f.range, f.later), f.gap),
    )

pub decides_free : (r : Ring) (m : Message) → Decides (station_free r m) (Free r m)
decides_free r m = decides_both _ _ _ _ (eqb-true _ _, eq-eqb _ _) (eqb-true _ _, eq-eqb _ _)

-- a handing in is accepted exactly if the ring is sound and takes the message
pub taken_passed : (r : Ring) (m : Message) → hand_in_number r m ≡ 0 → Sound r × Takes r m
taken_passed r m h =
    let p₈ = passed (is_sound r) 8 (message_number r m) (omega arith) h in
    let p₉ = passed (station_known r m) 9 _ (omega arith) p₈.1 in
    let p₁₀ = passed (length_allowed r m) 10 _ (omega arith) p₉.1 in
    let p₁₁ = passed (station_free r m) 11 _ (omega arith) p₁₀.1 in
    let p₁₅ = passed (has_arrived r m) 15 _ (omega arith) p₁₁.1 in
    let p₁₂ = passed (arrival_allowed r m) 12 0 (omega arith) p₁₅.1 in (
      sound_sentences r p₈.0,
      record {
        known = ltb-true _ _ p₉.0;
        length = (decides_between 1 _ _).0 p₁₀.0;
        free = (decides_free r m).0 p₁₁.0;
        arrived = leb-true _ _ p₁₅.0;
        arrival = (decides_arrival r m).0 p₁₂.0;
      },
    )

pub takes_holdable : (r : Ring) (m : Message) → hand_in_number r m ≡ 0 → Holdable m
takes_holdable r m h =
    let passed = taken_passed r m h in
    let takes = passed.1 in
    let plan = sound_plan r passed.0 in
    let station = plan.1.0.0.stations m.station.0 takes.known in
    record { inside = omega (arith, plan.0.1, takes.known); small = omega (arith, takes.length.1, station.longest) }

-- ---- the margin is a signed 64-bit number

pub difference : (a b : ℕ) → pos a -ℤ pos b ≡ sub_ℕ a b
difference a zero =
    let e : ltb a 0 ≡ false = le-ltb a 0 (omega arith) in
    let d : a + 0 ≡ a - 0 = omega arith in
    rw e (ap pos d)
difference a (suc b) = refl

pub difference_fits : (a b : ℕ) → a < 2 ^ 62 → b < 2 ^ 62 → SFits w64 (sub_ℕ a b)
difference_fits a b p q =
    ⊎_elim (λ (l : a < b). rw (lt-ltb a b l) (record { sfits = omega arith }))
    (λ (l : b ≤ a). rw (le-ltb a b l) (record { sfits = omega arith }))
    (below_or_not a b)
