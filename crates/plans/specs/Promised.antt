-- What is promised of planning and of the judgement of a given plan, beside the contracts; `proofs/Promised.antt` proves it.
use Rattle.std.specs.Prelude.{ℕ, ◌+◌, ◌-◌, ◌*◌, ◌≤◌, ◌<◌, ◌≡◌, List, ◌↔◌, ◌≢◌}
use Rattle.units.specs.Numbers.{accepted, no_allocation, fddi, most_stations}
use Rattle.units.specs.Small.{rounded_up}
use Rattle.units.specs.Places.{at, sum_below}
use Rattle.units.specs.Judging.{or_else}
use Rattle.sets.specs.Rules.{tau, CountAllowed, WalkTimeAllowed, SameSet}
use Rattle.sets.specs.Judged.{judged, judged_then}
use Rattle.sets.specs.declared.Set.{Set}
use Rattle.fddi.specs.Rules.{time_with, rest, others, MeetsFddi}
use Rattle.units.specs.Vectors.{whole_rotations}
use Rattle.plans.specs.Rules.{lost, spare_time, least_time, time_at, MeetsDeadline, MeetsDeadlines, MeetsToken, MeetsRules, IsSmallest, InRange, KeepsRules, Retired, timely_of, load_of}
use Rattle.plans.specs.Planned.{smallest_for, smallest_alloc, smallest_fits, judged_plan, answered, planned, blank_alloc}
use Rattle.plans.specs.Answer.{Fitting, IsPlan}
use Rattle.plans.specs.declared.Alloc.{Alloc}
use Rattle.plans.specs.declared.Planned.{Planned}

-- FDDI's X at station i, written out
abbrev pub fddi_time : Set → (ℕ → ℕ) → ℕ → ℕ
fddi_time t s i =
    time_with (whole_rotations t.head.ttrt (at t.d i))
    (rest t.head.ttrt (at t.d i) - (lost t + others t.n s i)) (s i)

-- s is the smallest of all whole numbers that meet the deadline rule
pub record SmallestOfAll (ttrt c d s : ℕ) : Type 0 where
  pub meets : MeetsDeadline ttrt c d s
  pub least : (other : ℕ) → MeetsDeadline ttrt c d other → s ≤ other

-- what a plan that planning answered keeps
pub record KeptBy (t : Set) (a : Planned) : Type 0 where
  -- the mode is still planned: one of the two timely-token editions
  pub in_use_lem : ¬ Retired t
  -- it is the least vector that meets the rules, and 0 from N on
  pub plan : IsPlan t a
  -- at each station it holds the smallest multiple of the grid that meets the station's deadline rule
  pub smallest : (i : ℕ)
      → i < t.n → IsSmallest t.head.grid t.head.ttrt (at t.c i) (at t.d i) (at a.alloc.s i)
  -- the judgement of that set with that allocation is 0
  pub judged : judged_plan t a.alloc ≡ 0

-- a given FDDI plan, and its set planned anew as a timely-token set
pub record PlannedAnew (t : Set) (a : Alloc) : Type 0 where
  -- there is a plan
  pub accepted : (planned (timely_of t)).number ≡ 0
  -- and it has no more than the given one at any station
  pub no_more : (i : ℕ) → i < t.n → at (planned (timely_of t)).alloc.s i ≤ at a.s i

pub record Promised : Type 0 where
  -- timely-token, both editions: X at a station is 01's, by the station's own S
  pub time_timely : (t : Set) (s : ℕ → ℕ) (i : ℕ)
      → t.head.mode ≢ fddi → time_at t s i ≡ least_time t.head.ttrt (at t.d i) (s i)
  -- FDDI: X at a station is 02's, with q = D / TTRT, r the rest, and the other stations' S: 0 for q = 0, else (q − 1)·S + (r − τ − (F − 1) − the others' S), held between 0 and S
  pub time_fddi : (t : Set) (s : ℕ → ℕ) (i : ℕ)
      → t.n ≤ most_stations → t.head.mode ≡ fddi → time_at t s i ≡ fddi_time t s i
  -- A*: TTRT − τ − the sum of S, and timely-token, both editions, subtracts F − 1 in it
  pub spare_timely : (t : Set) (s : ℕ → ℕ)
      → t.head.mode ≢ fddi → spare_time t s ≡ t.head.ttrt - tau t - (t.head.frame - 1) - sum_below t.n s
  -- FDDI does not
  pub spare_fddi : (t : Set) (s : ℕ → ℕ)
      → t.head.mode ≡ fddi → spare_time t s ≡ t.head.ttrt - tau t - sum_below t.n s
  -- with F 1 no station loses more than τ, so both rules and A* are those of before
  pub no_frames : (t : Set) → t.head.frame ≡ 1 → lost t ≡ tau t
  -- FDDI: the rules are those of `fddi`, of the set's load
  pub rules_fddi : (t : Set) (s : ℕ → ℕ)
      → t.n ≤ most_stations → t.head.mode ≡ fddi → MeetsRules t s ↔ MeetsFddi (load_of t) s
  -- `smallest` is a multiple of the grid and meets the deadline rule, and every multiple that meets it is at least as large: for all numbers, TTRT 0 among them
  pub smallest : (grid ttrt c d : ℕ) → 0 < grid → IsSmallest grid ttrt c d (smallest_for grid ttrt c d)
  -- no second number is so
  pub no_second : (grid ttrt c d s : ℕ) → 0 < grid → IsSmallest grid ttrt c d s → s ≡ smallest_for grid ttrt c d
  -- it is the smallest whole S, rounded up to the grid
  pub rounded : (grid ttrt c d : ℕ)
      → 0 < grid → smallest_for grid ttrt c d ≡ rounded_up (smallest_for 1 ttrt c d) grid * grid
  -- on a grid of 1 it is the smallest of all whole numbers, as before there was a grid
  pub every_number : (ttrt c d s : ℕ) → IsSmallest 1 ttrt c d s ↔ SmallestOfAll ttrt c d s
  -- and the rules are the deadline rule and the token rule alone
  pub no_grid : (t : Set) (s : ℕ → ℕ) → t.head.grid ≡ 1 → MeetsRules t s ↔ (MeetsDeadlines t s × MeetsToken t s)
  -- on a grid of 0, which no set has, it is 0
  pub grid_zero : (ttrt c d : ℕ) → smallest_for 0 ttrt c d ≡ 0
  -- at TTRT 0, where D / TTRT is read as 0, X is S, and C comes back, rounded up to the grid
  pub at_zero : (grid c d : ℕ) → 0 < grid → smallest_for grid 0 c d ≡ rounded_up c grid * grid
  -- planning answers 16 exactly if the set is judged 0 and its mode is retired: after 2, 4 and 5
  pub sixteen : (t : Set) → ((planned t).number ≡ 16) ↔ ((judged t ≡ 0) × Retired t)
  -- 6 exactly if the set is judged 0, its mode is still planned, and no list of numbers whatever meets the rules, so no list of multiples of the grid meets the token and the deadline rule
  pub six : (t : Set)
      → ((planned t).number ≡ 6) ↔ ((judged t ≡ 0) × (¬ Retired t × ((s : List ℕ) → ¬ MeetsRules t (at s))))
  -- where the set is refused, so is the plan, with the set's number
  pub refused_set : (t : Set) → judged t ≢ 0 → (planned t).number ≡ judged t
  -- the 2002 and the 2003 edition are planned as before there was a 16: the set's number, then 6 where the smallest S together break a rule, else the smallest S
  pub editions_stay : (t : Set)
      → ¬ Retired t
      → planned t ≡ answered (judged_then t (or_else (smallest_fits t) no_allocation accepted)) (smallest_alloc t)
  -- a set that leaves FDDI needs no more synchronous time: where a given FDDI plan meets its rules, the set has a timely-token plan, with no more at any station
  pub leaves_fddi : (t : Set) (a : Alloc) → Retired t → judged_plan t a ≡ 0 → PlannedAnew t a
  -- a refused plan is blank
  pub blank : (t : Set) → (planned t).number ≢ 0 → (planned t).alloc ≡ blank_alloc
  -- an answered plan is what 01 asks, on the grid
  pub kept : (t : Set) → (planned t).number ≡ 0 → KeptBy t (planned t)
  -- 01's sentences, with 16, allow exactly one answer for each set, and it is planning's
  pub one_answer : (t : Set) (a : Planned) → Fitting t a ↔ (a ≡ planned t)
  -- places from N on are never looked at, in planning
  pub first_places_lem : (a b : Set) → SameSet a b → planned a ≡ planned b
  -- and in judging a given plan
  pub first_places_judged : (t u : Set) (a b : Alloc)
      → SameSet t u → ((i : ℕ) → i < t.n → at a.s i ≡ at b.s i) → judged_plan t a ≡ judged_plan u b
  -- 2 for a given plan, exactly if the count of stations is wrong
  pub given_two : (t : Set) (a : Alloc) → (judged_plan t a ≡ 2) ↔ ¬ CountAllowed t
  -- 4, exactly if the count is right and a number of the set or an S is out of its range
  pub given_four : (t : Set) (a : Alloc) → (judged_plan t a ≡ 4) ↔ (CountAllowed t × ¬ InRange t a)
  -- 5, exactly if all numbers are in range and τ is 0 or above TTRT
  pub given_five : (t : Set) (a : Alloc) → (judged_plan t a ≡ 5) ↔ (CountAllowed t × (InRange t a × ¬ WalkTimeAllowed t))
  -- 7, exactly if all that is right and the allocation breaks the token or the deadline rule or has an S off the grid
  pub given_seven : (t : Set) (a : Alloc)
      → (judged_plan t a ≡ 7) ↔ (CountAllowed t × (InRange t a × (WalkTimeAllowed t × ¬ KeepsRules t a)))
  -- 0, exactly if all that is right and the allocation meets the rules
  pub given_none : (t : Set) (a : Alloc)
      → (judged_plan t a ≡ 0) ↔ (CountAllowed t × (InRange t a × (WalkTimeAllowed t × KeepsRules t a)))
