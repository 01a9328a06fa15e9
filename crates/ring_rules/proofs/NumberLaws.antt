-- Each number is given exactly if its line holds, because each test decides its sentence and the judgement stops at the first that fails.
use Prim.Native.Nat.{ℕ, zero, suc, ◌≤◌, ◌<◌}
use mathlib.Core.Path.{◌≡◌, refl}
use mathlib.Core.Bool.{Bool, true, false, ◌&&◌}
use mathlib.Core.Logic.{◌↔◌, ◌≢◌, ◌⊎◌, inl, inr, ⊎_elim}
use native.Mathlib.Omega.{arith}
use borrow.Author.Tests.{ltb-true, lt-ltb}
use lib.Dec.{leb, ltb}
use Rattle.units.specs.Numbers.{most_clock}
use Rattle.units.specs.Places.{at}
use Rattle.units.specs.Judging.{or_else, Decides}
use Rattle.units.proofs.JudgingLaws.{true_or_false, decides_le, decides_both, decides_between, given, given_later, not_given, iff_then, iff_under}
use Rattle.units.specs.declared.Station.{Station}
use Rattle.units.proofs.VectorLaws.{decides_rules}
use Rattle.sets.specs.Rules.{CountAllowed, WalkTimeAllowed, count_allowed, numbers_allowed, walk_time_allowed}
use Rattle.sets.proofs.SetLaws.{decides_count, decides_numbers, decides_walk}
use Rattle.sets.specs.declared.Set.{Set}
use Rattle.plans.specs.Rules.{Retired, in_use, InRange, KeepsRules, terms_of, rules_fit, alloc_in_range}
use Rattle.plans.specs.Planned.{rules_number, judged_plan}
use Rattle.plans.proofs.PlanLaws.{decides_alloc, given_sixteen, past_sixteen}
use Rattle.plans.specs.declared.Alloc.{Alloc}
use Rattle.rings.specs.State.{count}
use Rattle.rings.specs.Opening.{opening_number}
use Rattle.rings.specs.Sound.{Sound, is_sound}
use Rattle.rings.specs.Steps.{Ask, LengthNamed, length_named, visit_number, visited_with}
use Rattle.rings.specs.HandingIn.{ArrivalAllowed, Takes, station_known, length_allowed, station_free, Free, Arrived, has_arrived, arrival_allowed, hand_in_number}
use Rattle.rings.specs.Marking.{mark_number, withdraws, withdrawal, marked_with, unmarked_with}
use Rattle.rings.proofs.RingLaws.{decides_sound, decides_free, decides_arrival}
use Rattle.rings.specs.declared.Ring.{Ring}
use Rattle.rings.specs.declared.Message.{Message}

-- ---- an answer's number is the judgement's

pub visited_number : (k : ℕ) (r : Ring) (ask : Ask) → (visited_with k r ask).answer.number ≡ k
unfolding visited_with
visited_number zero r ask = refl
visited_number (suc k) r ask = refl

-- ---- the numbers of an opening

module _ (t : Set) (a : Alloc) where
  decides_range : Decides (numbers_allowed t && alloc_in_range t (at a.s)) (InRange t a)
  decides_range = decides_both _ _ _ _ (decides_numbers t) (decides_alloc t (at a.s))

  decides_kept : Decides (rules_fit t (at a.s)) (KeepsRules t a)
  decides_kept = decides_rules (terms_of t) (at a.s)

  pub opening_two : (opening_number t a ≡ 2) ↔ ¬ CountAllowed t
  unfolding opening_number
  opening_two =
      given _ _ 2 _ (decides_count t)
      (not_given _ 4 _ 2 (omega arith) (not_given _ 5 _ 2 (omega arith) (not_given _ 16 _ 2 (omega arith) (not_given _ 7 0 2 (omega arith) (omega arith)))))

  pub opening_four : (opening_number t a ≡ 4) ↔ (CountAllowed t × ¬ InRange t a)
  unfolding opening_number
  opening_four =
      iff_then (given_later _ _ 2 _ 4 (decides_count t) (omega arith))
      (iff_under
      (given _ _ 4 _ decides_range
      (not_given _ 5 _ 4 (omega arith) (not_given _ 16 _ 4 (omega arith) (not_given _ 7 0 4 (omega arith) (omega arith))))))

  pub opening_five : (opening_number t a ≡ 5) ↔ (CountAllowed t × (InRange t a × ¬ WalkTimeAllowed t))
  unfolding opening_number
  opening_five =
      iff_then (given_later _ _ 2 _ 5 (decides_count t) (omega arith))
      (iff_under
      (iff_then (given_later _ _ 4 _ 5 decides_range (omega arith))
      (iff_under (given _ _ 5 _ (decides_walk t) (not_given _ 16 _ 5 (omega arith) (not_given _ 7 0 5 (omega arith) (omega arith)))))))

  pub opening_sixteen : (opening_number t a ≡ 16) ↔ (CountAllowed t × (InRange t a × (WalkTimeAllowed t × Retired t)))
  unfolding opening_number
  opening_sixteen =
      iff_then (given_later _ _ 2 _ 16 (decides_count t) (omega arith))
      (iff_under
      (iff_then (given_later _ _ 4 _ 16 decides_range (omega arith))
      (iff_under
      (iff_then (given_later _ _ 5 _ 16 (decides_walk t) (omega arith))
      (iff_under (given_sixteen t _ (not_given _ 7 0 16 (omega arith) (omega arith))))))))

  pub opening_seven : (opening_number t a ≡ 7) ↔ (CountAllowed t × (InRange t a × (WalkTimeAllowed t × (¬ Retired t × ¬ KeepsRules t a))))
  unfolding opening_number
  opening_seven =
      iff_then (given_later _ _ 2 _ 7 (decides_count t) (omega arith))
      (iff_under
      (iff_then (given_later _ _ 4 _ 7 decides_range (omega arith))
      (iff_under
      (iff_then (given_later _ _ 5 _ 7 (decides_walk t) (omega arith))
      (iff_under
      (iff_then (past_sixteen t _ 7 (omega arith)) (iff_under (given _ _ 7 0 decides_kept (omega arith)))))))))

  pub opening_only : (opening_number t a ≡ judged_plan t a) ⊎ (opening_number t a ≡ 16)
  unfolding or_else opening_number judged_plan
  opening_only = go (count_allowed t) (numbers_allowed t && alloc_in_range t (at a.s)) (walk_time_allowed t) (in_use t) (rules_number t a)
    where
      go : (b₂ b₄ b₅ b₁₆ : Bool) (k : ℕ) → (or_else b₂ 2 (or_else b₄ 4 (or_else b₅ 5 (or_else b₁₆ 16 k))) ≡ or_else b₂ 2 (or_else b₄ 4 (or_else b₅ 5 k))) ⊎ (or_else b₂ 2 (or_else b₄ 4 (or_else b₅ 5 (or_else b₁₆ 16 k))) ≡ 16)
      go false b₄ b₅ b₁₆ k = inl refl
      go true false b₅ b₁₆ k = inl refl
      go true true false b₁₆ k = inl refl
      go true true true false k = inr refl
      go true true true true k = inl refl

-- ---- the numbers of a visit

module _ (r : Ring) (ask : Ask) where
  decides_named : Decides (length_named r ask) (LengthNamed r ask)
  decides_named = decides_between 1 _ ask.length

  decides_clock : Decides (leb r.clock most_clock) (r.clock ≤ most_clock)
  decides_clock = decides_le r.clock most_clock

  pub visit_eight : (visit_number r ask ≡ 8) ↔ ¬ Sound r
  visit_eight = given (is_sound r) (Sound r) 8 _ (decides_sound r) (not_given _ 10 _ 8 (omega arith) (not_given _ 13 0 8 (omega arith) (omega arith)))

  pub visit_ten : (visit_number r ask ≡ 10) ↔ (Sound r × ¬ LengthNamed r ask)
  visit_ten =
      iff_then (given_later (is_sound r) (Sound r) 8 _ 10 (decides_sound r) (omega arith))
      (iff_under (given (length_named r ask) _ 10 _ decides_named (not_given _ 13 0 10 (omega arith) (omega arith))))

  pub visit_thirteen : (visit_number r ask ≡ 13) ↔ (Sound r × (LengthNamed r ask × ¬ (r.clock ≤ most_clock)))
  visit_thirteen =
      iff_then (given_later (is_sound r) (Sound r) 8 _ 13 (decides_sound r) (omega arith))
      (iff_under
      (iff_then (given_later (length_named r ask) _ 10 _ 13 decides_named (omega arith))
      (iff_under (given (leb r.clock most_clock) _ 13 0 decides_clock (omega arith)))))

  pub visit_none : (visit_number r ask ≡ 0) ↔ (Sound r × (LengthNamed r ask × (r.clock ≤ most_clock)))
  visit_none =
      iff_then (given_later (is_sound r) (Sound r) 8 _ 0 (decides_sound r) (omega arith))
      (iff_under
      (iff_then (given_later (length_named r ask) _ 10 _ 0 decides_named (omega arith))
      (iff_under
      (iff_then (given_later (leb r.clock most_clock) _ 13 0 0 decides_clock (omega arith)) ((λ h. h.0), λ h. (h, refl))))))

  pub visit_only : (visit_number r ask ≡ 0) ⊎ (visit_number r ask ≡ 8) ⊎ (visit_number r ask ≡ 10) ⊎ (visit_number r ask ≡ 13)
  unfolding or_else
  visit_only = go (is_sound r) (length_named r ask) (leb r.clock most_clock)
    where
      go : (a b c : Bool) → let k = or_else a 8 (or_else b 10 (or_else c 13 0)) in (k ≡ 0) ⊎ (k ≡ 8) ⊎ (k ≡ 10) ⊎ (k ≡ 13)
      go false b c = inr (inl refl)
      go true false c = inr (inr (inl refl))
      go true true false = inr (inr (inr refl))
      go true true true = inl refl

-- ---- the numbers of a handing in

module _ (r : Ring) (m : Message) where
  decides_known : Decides (station_known r m) (m.station.0 < count r)
  decides_known = (ltb-true _ _, lt-ltb _ _)

  decides_length : Decides (length_allowed r m) ((1 ≤ m.length.0) × (m.length.0 ≤ at r.set.c m.station.0))
  decides_length = decides_between 1 _ m.length.0

  decides_arrived : Decides (has_arrived r m) (Arrived r m)
  decides_arrived = decides_le _ _

  -- what stands behind 11 gives 15, 12 or 0
  behind_eleven : (k : ℕ) → 0 < k → k < 12 → or_else (has_arrived r m) 15 (or_else (arrival_allowed r m) 12 0) ≢ k
  behind_eleven k above below = not_given _ 15 _ k (omega arith) (not_given _ 12 0 k (omega arith) (omega arith))

  pub message_eight : (hand_in_number r m ≡ 8) ↔ ¬ Sound r
  message_eight =
      given (is_sound r) (Sound r) 8 _ (decides_sound r)
      (not_given _ 9 _ 8 (omega arith)
      (not_given _ 10 _ 8 (omega arith) (not_given _ 11 _ 8 (omega arith) (behind_eleven 8 (omega arith) (omega arith)))))

  pub message_nine : (hand_in_number r m ≡ 9) ↔ (Sound r × ¬ (m.station.0 < count r))
  message_nine =
      iff_then (given_later (is_sound r) (Sound r) 8 _ 9 (decides_sound r) (omega arith))
      (iff_under
      (given (station_known r m) _ 9 _ decides_known
      (not_given _ 10 _ 9 (omega arith) (not_given _ 11 _ 9 (omega arith) (behind_eleven 9 (omega arith) (omega arith))))))

  pub message_ten : (hand_in_number r m ≡ 10) ↔ (Sound r × ((m.station.0 < count r) × ¬ ((1 ≤ m.length.0) × (m.length.0 ≤ at r.set.c m.station.0))))
  message_ten =
      iff_then (given_later (is_sound r) (Sound r) 8 _ 10 (decides_sound r) (omega arith))
      (iff_under
      (iff_then (given_later (station_known r m) _ 9 _ 10 decides_known (omega arith))
      (iff_under
      (given (length_allowed r m) _ 10 _ decides_length (not_given _ 11 _ 10 (omega arith) (behind_eleven 10 (omega arith) (omega arith)))))))

  pub message_eleven : (hand_in_number r m ≡ 11) ↔ (Sound r × ((m.station.0 < count r)
      × (((1 ≤ m.length.0) × (m.length.0 ≤ at r.set.c m.station.0)) × ¬ Free r m)))
  message_eleven =
      iff_then (given_later (is_sound r) (Sound r) 8 _ 11 (decides_sound r) (omega arith))
      (iff_under
      (iff_then (given_later (station_known r m) _ 9 _ 11 decides_known (omega arith))
      (iff_under
      (iff_then (given_later (length_allowed r m) _ 10 _ 11 decides_length (omega arith))
      (iff_under (given (station_free r m) _ 11 _ (decides_free r m) (behind_eleven 11 (omega arith) (omega arith))))))))

  pub message_fifteen : (hand_in_number r m ≡ 15) ↔ (Sound r × ((m.station.0 < count r)
      × (((1 ≤ m.length.0) × (m.length.0 ≤ at r.set.c m.station.0)) × (Free r m × ¬ Arrived r m))))
  message_fifteen =
      iff_then (given_later (is_sound r) (Sound r) 8 _ 15 (decides_sound r) (omega arith))
      (iff_under
      (iff_then (given_later (station_known r m) _ 9 _ 15 decides_known (omega arith))
      (iff_under
      (iff_then (given_later (length_allowed r m) _ 10 _ 15 decides_length (omega arith))
      (iff_under
      (iff_then (given_later (station_free r m) _ 11 _ 15 (decides_free r m) (omega arith))
      (iff_under (given (has_arrived r m) _ 15 _ decides_arrived (not_given _ 12 0 15 (omega arith) (omega arith))))))))))

  pub message_twelve : (hand_in_number r m ≡ 12) ↔ (Sound r × ((m.station.0 < count r)
      × (((1 ≤ m.length.0) × (m.length.0 ≤ at r.set.c m.station.0)) × (Free r m × (Arrived r m × ¬ ArrivalAllowed r m)))))
  message_twelve =
      iff_then (given_later (is_sound r) (Sound r) 8 _ 12 (decides_sound r) (omega arith))
      (iff_under
      (iff_then (given_later (station_known r m) _ 9 _ 12 decides_known (omega arith))
      (iff_under
      (iff_then (given_later (length_allowed r m) _ 10 _ 12 decides_length (omega arith))
      (iff_under
      (iff_then (given_later (station_free r m) _ 11 _ 12 (decides_free r m) (omega arith))
      (iff_under
      (iff_then (given_later (has_arrived r m) _ 15 _ 12 decides_arrived (omega arith))
      (iff_under (given (arrival_allowed r m) _ 12 0 (decides_arrival r m) (omega arith)))))))))))

  pub message_none : (hand_in_number r m ≡ 0) ↔ (Sound r × Takes r m)
  message_none =
      iff_then (given_later (is_sound r) (Sound r) 8 _ 0 (decides_sound r) (omega arith))
      (iff_under
      (iff_then (given_later (station_known r m) _ 9 _ 0 decides_known (omega arith))
      (iff_then (iff_under
      (iff_then (given_later (length_allowed r m) _ 10 _ 0 decides_length (omega arith))
      (iff_under
      (iff_then (given_later (station_free r m) _ 11 _ 0 (decides_free r m) (omega arith))
      (iff_under
      (iff_then (given_later (has_arrived r m) _ 15 _ 0 decides_arrived (omega arith))
      (iff_under (given_later (arrival_allowed r m) _ 12 0 0 (decides_arrival r m) (omega arith))))))))) (
        λ h. record { known = h.0; length = h.1.0; free = h.1.1.0; arrived = h.1.1.1.0; arrival = h.1.1.1.1.0 },
        λ t. (t.known, (t.length, (t.free, (t.arrived, (t.arrival, refl))))),
      ))))

  pub message_only : (hand_in_number r m ≡ 0) ⊎ ((8 ≤ hand_in_number r m) × (hand_in_number r m ≤ 12)) ⊎ (hand_in_number r m ≡ 15)
  unfolding or_else
  message_only = go (is_sound r) (station_known r m) (length_allowed r m) (station_free r m) (has_arrived r m) (arrival_allowed r m)
    where
      among : Bool → Bool → Bool → Bool → Bool → Bool → ℕ
      among a b c d e f = or_else a 8 (or_else b 9 (or_else c 10 (or_else d 11 (or_else e 15 (or_else f 12 0)))))

      go : (a b c d e f : Bool) → let k = among a b c d e f in (k ≡ 0) ⊎ ((8 ≤ k) × (k ≤ 12)) ⊎ (k ≡ 15)
      go false b c d e f = inr (inl (omega arith, omega arith))
      go true false c d e f = inr (inl (omega arith, omega arith))
      go true true false d e f = inr (inl (omega arith, omega arith))
      go true true true false e f = inr (inl (omega arith, omega arith))
      go true true true true false f = inr (inr refl)
      go true true true true true false = inr (inl (omega arith, omega arith))
      go true true true true true true = inl refl

-- ---- the numbers of a marking, which are those of taking the mark off

pub marked_number : (k : ℕ) (r : Ring) (s : Station) → (marked_with k r s).answer.number ≡ k
unfolding marked_with withdrawal
marked_number zero r s = ⊎_elim (λ (h : withdraws r s.0 ≡ true). rw h) (λ (h : withdraws r s.0 ≡ false). rw h) (true_or_false (withdraws r s.0))
marked_number (suc k) r s = refl

pub unmarked_number : (k : ℕ) (r : Ring) (s : Station) → (unmarked_with k r s).number ≡ k
unfolding unmarked_with
unmarked_number zero r s = refl
unmarked_number (suc k) r s = refl

module _ (r : Ring) (s : Station) where
  decides_station : Decides (ltb s.0 (count r)) (s.0 < count r)
  decides_station = (ltb-true _ _, lt-ltb _ _)

  pub mark_eight : (mark_number r s ≡ 8) ↔ ¬ Sound r
  mark_eight = given (is_sound r) (Sound r) 8 _ (decides_sound r) (not_given _ 9 0 8 (omega arith) (omega arith))

  pub mark_nine : (mark_number r s ≡ 9) ↔ (Sound r × ¬ (s.0 < count r))
  mark_nine =
      iff_then (given_later (is_sound r) (Sound r) 8 _ 9 (decides_sound r) (omega arith))
      (iff_under (given (ltb s.0 (count r)) _ 9 0 decides_station (omega arith)))

  pub mark_none : (mark_number r s ≡ 0) ↔ (Sound r × (s.0 < count r))
  mark_none =
      iff_then (given_later (is_sound r) (Sound r) 8 _ 0 (decides_sound r) (omega arith))
      (iff_under
      (iff_then (given_later (ltb s.0 (count r)) _ 9 0 0 decides_station (omega arith)) ((λ h. h.0), λ h. (h, refl))))

  pub mark_only : (mark_number r s ≡ 0) ⊎ (mark_number r s ≡ 8) ⊎ (mark_number r s ≡ 9)
  unfolding or_else
  mark_only = go (is_sound r) (ltb s.0 (count r))
    where
      go : (a b : Bool) → let k = or_else a 8 (or_else b 9 0) in (k ≡ 0) ⊎ (k ≡ 8) ⊎ (k ≡ 9)
      go false b = inr (inl refl)
      go true false = inr (inr refl)
      go true true = inl refl
