-- What is promised of the faults beside the contracts; `proofs/Promised.antt` proves it.
use Rattle.std.specs.Prelude.{ℕ, ◌+◌, ◌<◌, ◌≡◌, true, ◌↔◌}
use Rattle.units.specs.Grid.{MultipleOf}
use Rattle.units.specs.Places.{at}
use Rattle.sets.specs.Rules.{CountAllowed, NumbersAllowed, WalkTimeAllowed}
use Rattle.sets.specs.Judged.{judged}
use Rattle.sets.specs.declared.Set.{Set}
use Rattle.plans.specs.Rules.{time_at, InRange, Retired}
use Rattle.plans.specs.Planned.{smallest_at, judged_plan, planned}
use Rattle.plans.specs.declared.Alloc.{Alloc}
use Rattle.faults.specs.Cases.{Cases}
use Rattle.faults.specs.Holdings.{holding_at, Faulty}
use Rattle.faults.specs.Ranges.{NoneOut, SomeOut}

-- what is said of a station of a set that is not refused with 2
pub record Held (t : Set) (a : Alloc) (i : ℕ) : Type 0 where
  -- X is that of the rule
  pub time : (holding_at t a i).time ≡ time_at t (at a.s) i
  -- it is short exactly if X is below C
  pub short : ((holding_at t a i).short ≡ true) ↔ (time_at t (at a.s) i < at t.c i)
  -- it is off the grid exactly if S is no multiple of g
  pub off_grid : ((holding_at t a i).off_grid ≡ true) ↔ ¬ MultipleOf t.head.grid (at a.s i)
  -- of a plan that meets the rules in mode 1 or 3: S is the smallest and what it has more than need be
  pub excess : judged_plan t a ≡ 0 → ¬ Retired t → at a.s i ≡ smallest_at t i + (holding_at t a i).excess

pub record Promised : Type 0 where
  pub held : (t : Set) (a : Alloc) (i : ℕ) → CountAllowed t → i < t.n → Held t a i
  -- 7 is given for a given plan exactly if nothing else is wrong and one of these faults is there
  pub seven : (t : Set) (a : Alloc)
      → (judged_plan t a ≡ 7) ↔ (CountAllowed t × (InRange t a × (WalkTimeAllowed t × Faulty t a)))
  -- where a given plan meets the rules in mode 1 or 3, planning finds one too, and no S of it is larger than need be exactly if it is that one
  pub planned_too : (t : Set) (a : Alloc) → judged_plan t a ≡ 0 → ¬ Retired t → (planned t).number ≡ 0
  pub planned_same : (t : Set) (a : Alloc)
      → judged_plan t a ≡ 0 → ¬ Retired t
      → ((i : ℕ) → i < t.n → (holding_at t a i).excess ≡ 0)
      ↔ ((i : ℕ) → i < t.n → at a.s i ≡ at (planned t).alloc.s i)
  -- every number of a set is in its range exactly if none of its places is listed
  pub none_listed : (t : Set) (a : Alloc) → NumbersAllowed t ↔ NoneOut t a 4
  -- with every S, of a plan
  pub none_listed_plan : (t : Set) (a : Alloc) → InRange t a ↔ NoneOut t a 5
  -- 4 is given for a set exactly if its count of stations is right and some place is listed
  pub four : (t : Set) (a : Alloc) → (judged t ≡ 4) ↔ (CountAllowed t × SomeOut t a 4)
  -- and for a plan
  pub four_plan : (t : Set) (a : Alloc) → (judged_plan t a ≡ 4) ↔ (CountAllowed t × SomeOut t a 5)
  -- cases that a person can check by hand
  pub cases : Cases
