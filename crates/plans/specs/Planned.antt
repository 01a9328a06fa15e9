-- The smallest S as a formula, the judgement of a given plan, and planning.
use Rattle.std.specs.Prelude.{ℕ, zero, suc, ◌+◌, ◌*◌, Bool, cond, ◌&&◌, leb, Result, Ok, Err}
use Rattle.units.specs.Numbers.{accepted, wrong_shape, out_of_range, bad_walk_time, no_allocation, rules_broken, retired}
use Rattle.units.specs.Refusals.{refusal_number}
use Rattle.units.specs.declared.refusals.Refusal.{Refusal}
use Rattle.units.specs.Grid.{stepped}
use Rattle.units.specs.Places.{at, fill}
use Rattle.units.specs.Judging.{or_else}
use Rattle.sets.specs.Rules.{count_allowed, numbers_allowed, walk_time_allowed}
use Rattle.sets.specs.Judged.{judged_then, zeros}
use Rattle.sets.specs.declared.Set.{Set}
use Rattle.units.specs.Vectors.{whole_rotations}
use Rattle.plans.specs.Rules.{alpha, in_use, rules_fit, alloc_in_range}
use Rattle.plans.specs.declared.Alloc.{Alloc}
use Rattle.plans.specs.declared.Planned.{Planned}

-- ---- the smallest S

-- on a grid, with m and α given: up to C = m·α whole rotations are enough, and it is the smallest multiple of which m are at least C;
-- above it the last part counts too, and it is the smallest multiple of which m + 1 are at least C + α
unfoldable pub smallest_with : ℕ → ℕ → ℕ → ℕ → ℕ
smallest_with grid m α c = cond (leb c (m * α)) (stepped grid m c) (stepped grid (m + 1) (c + α))

-- the smallest S on a grid for TTRT, C and D. `Promised` says that it is the smallest; at TTRT 0 it is C rounded up to the grid, on a grid of 0 it is 0
abbrev pub smallest_for : ℕ → ℕ → ℕ → ℕ → ℕ
smallest_for grid ttrt c d = smallest_with grid (whole_rotations ttrt d) (alpha ttrt d) c

-- the smallest S of station i
abbrev pub smallest_at : Set → ℕ → ℕ
smallest_at t i = smallest_for t.head.grid t.head.ttrt (at t.c i) (at t.d i)

-- ---- the judgement of a given plan: 0, or the lowest of 2, 4, 5 and 7 that applies

-- the lowest of 2, 4 and 5 that applies to a set with a given allocation, else what is judged then
abbrev pub given_then : Set → Alloc → ℕ → ℕ
given_then t a rest =
    or_else (count_allowed t) wrong_shape
    (or_else (numbers_allowed t && alloc_in_range t (at a.s)) out_of_range
    (or_else (walk_time_allowed t) bad_walk_time rest))

-- 7 where the allocation breaks a rule
abbrev pub rules_number : Set → Alloc → ℕ
rules_number t a = or_else (rules_fit t (at a.s)) rules_broken accepted

unfoldable pub judged_plan : Set → Alloc → ℕ
judged_plan t a = given_then t a (rules_number t a)

-- ---- planning

-- what a refused call hands back for an allocation
abbrev pub blank_alloc : Alloc
blank_alloc = record { s = zeros }

-- the smallest S at each of the N stations by the stations' own numbers, 0 past them
abbrev pub smallest_alloc : Set → Alloc
smallest_alloc t = record { s = fill t.n (smallest_at t) zeros }

-- the smallest S together meet the rules
abbrev pub smallest_fits : Set → Bool
smallest_fits t = rules_fit t (at (smallest_alloc t).s)

-- the first of 2, 4, 5, 16 and 6 that applies; 6 where the smallest S together break a rule
abbrev pub plan_number : Set → ℕ
plan_number t = judged_then t (or_else (in_use t) retired (or_else (smallest_fits t) no_allocation accepted))

-- a refused answer is blank
unfoldable pub answered : ℕ → Alloc → Planned
answered zero a = record { alloc = a; number = 0 }
answered (suc k) a = record { alloc = blank_alloc; number = suc k }

-- planning's answer
abbrev pub planned : Set → Planned
planned t = answered (plan_number t) (smallest_alloc t)

-- what a host is handed of an allocation that was found, and of a refusal
abbrev pub planned_as : Result Alloc Refusal → Planned
planned_as (Ok alloc) = record { alloc = alloc; number = 0 }
planned_as (Err refusal) = record { alloc = blank_alloc; number = refusal_number refusal }
