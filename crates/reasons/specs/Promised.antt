-- What is promised of the reasons beside the contracts; `proofs/Promised.antt` proves it.
use Rattle.std.specs.Prelude.{ℕ, ◌+◌, ◌≤◌, ◌<◌, ◌≡◌, true, List, ◌↔◌, ◌≢◌, length}
use Rattle.units.specs.Numbers.{most_stations}
use Rattle.units.specs.Grid.{AllOnGrid}
use Rattle.units.specs.Places.{at}
use Rattle.units.specs.Vectors.{TokenKept}
use Rattle.sets.specs.declared.Set.{Set}
use Rattle.plans.specs.Rules.{lost, MeetsDeadlines, MeetsToken}
use Rattle.plans.specs.Planned.{smallest_at, planned}
use Rattle.reasons.specs.Cases.{Cases}
use Rattle.reasons.specs.Grounds.{Shown, grounds_at}
use Rattle.reasons.specs.Rooms.{Largest, rooms_of}
use Rattle.reasons.specs.Shortages.{Plannable, no_shortage, shortage_of, too_much, grid_is_cause}

pub record Promised : Type 0 where
  -- planning answers 6 exactly if ticks are missing
  pub six : (t : Set) → ((planned t).number ≡ 6) ↔ (0 < (shortage_of t).missing)
  -- of a set that planning does not refuse otherwise, a plan exactly if none are
  pub plan : (t : Set) → Plannable t → ((planned t).number ≡ 0) ↔ ((shortage_of t).missing ≡ 0)
  -- the missing ticks are exactly the shortage: with so many ticks more in the token rule the smallest S fit, with one less they do not
  pub exact : (t : Set)
      → Plannable t → (more : ℕ)
      → TokenKept (t.head.ttrt + more) (lost t) t.n (smallest_at t) ↔ ((shortage_of t).missing ≤ more)
  -- and no other S do with fewer
  pub no_better : (t : Set)
      → Plannable t → (more : ℕ) (s : ℕ → ℕ) → MeetsDeadlines t s → AllOnGrid t.head.grid t.n s
      → TokenKept (t.head.ttrt + more) (lost t) t.n s
      → (shortage_of t).missing ≤ more
  -- where one station alone is above what there is, planning answers 6
  pub alone : (t : Set)
      → Plannable t → (i : ℕ) → i < t.n → too_much (shortage_of t).available (smallest_at t i) ≡ true
      → (planned t).number ≡ 6
  -- the grid is the cause exactly if planning answers 6 though some whole numbers keep the deadline rule and the token rule
  pub grid_cause : (t : Set)
      → (grid_is_cause t ≡ true)
      ↔ (((planned t).number ≡ 6) × ((s : List ℕ) × (MeetsDeadlines t (at s) × MeetsToken t (at s))))
  -- of a set that planning refuses with another number all is 0
  pub not_planned : (t : Set) → ¬ Plannable t → shortage_of t ≡ no_shortage
  -- what the smallest S of a station rests on
  pub grounds : (t : Set) → Plannable t → (i : ℕ) → i < t.n → Shown t i (grounds_at t i)
  -- the room that is left to a station of a set that has a plan
  pub rooms : (t : Set)
      → (planned t).number ≡ 0 → length t.c ≡ most_stations → (i : ℕ) → i < t.n → Largest t i (at (rooms_of t).c i)
  -- a set that has no plan has none
  pub no_rooms : (t : Set) → (planned t).number ≢ 0 → (i : ℕ) → at (rooms_of t).c i ≡ 0
  -- cases that a person can check by hand
  pub cases : Cases
