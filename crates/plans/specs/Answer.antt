-- Planning as the sentences of 01 and of 02, No. 14, have it, with no way to compute it: what each answer needs, and no more. `Promised` says that just one answer fits, and that it is planning's.
use Rattle.std.specs.Prelude.{ℕ, ◌≡◌, List}
use Rattle.units.specs.Places.{at}
use Rattle.units.specs.Vectors.{LeastPlaces}
use Rattle.sets.specs.Rules.{CountAllowed, NumbersAllowed, WalkTimeAllowed}
use Rattle.sets.specs.declared.Set.{Set}
use Rattle.plans.specs.Rules.{terms_of, MeetsRules, Retired}
use Rattle.plans.specs.Planned.{blank_alloc}
use Rattle.plans.specs.declared.Planned.{Planned}

-- some vector of numbers meets the rules, so that every number of it is a multiple of the grid
abbrev pub AllocationExists : Set → Type 0
AllocationExists t = (s : List ℕ) × MeetsRules t (at s)

-- the answer is this refusal, blank
abbrev pub Refused : ℕ → Planned → Type 0
Refused number a = a ≡ record { alloc = blank_alloc; number = number }

-- the answer is the plan: the least vector that meets the rules, and 0 in the places from N on
pub record IsPlan (t : Set) (a : Planned) : Type 0 where
  pub accepted : a.number ≡ 0
  pub plan : LeastPlaces (terms_of t) a.alloc.s

-- the answer fits the set
pub record Fitting (t : Set) (a : Planned) : Type 0 where
  -- 2: wrong count of stations
  pub two : ¬ CountAllowed t → Refused 2 a
  -- 4: a number outside the ranges
  pub four : CountAllowed t → ¬ NumbersAllowed t → Refused 4 a
  -- 5: τ is 0 or above TTRT
  pub five : CountAllowed t → NumbersAllowed t → ¬ WalkTimeAllowed t → Refused 5 a
  -- 16: FDDI is retired
  pub sixteen : CountAllowed t → NumbersAllowed t → WalkTimeAllowed t → Retired t → Refused 16 a
  -- 6: no allocation of multiples of the grid exists
  pub six : CountAllowed t → NumbersAllowed t → WalkTimeAllowed t → ¬ Retired t → ¬ AllocationExists t → Refused 6 a
  -- else the plan
  pub plan : CountAllowed t → NumbersAllowed t → WalkTimeAllowed t → ¬ Retired t → AllocationExists t → IsPlan t a
