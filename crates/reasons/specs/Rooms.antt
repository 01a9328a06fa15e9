-- How much room is left: of an accepted request, for each station the largest C with which the set still has a plan, all else as it is.
use Rattle.std.specs.Prelude.{ℕ, ◌-◌, ◌*◌, ◌/◌, ◌≤◌, ◌<◌, ◌≡◌, Bool, cond, ◌&&◌, ◌↔◌, eqb, set}
use Rattle.units.specs.Numbers.{most_c}
use Rattle.units.specs.Places.{at, fill, zeros}
use Rattle.sets.specs.declared.Set.{Set}
use Rattle.plans.specs.Rules.{least_time}
use Rattle.plans.specs.Planned.{smallest_at, planned}
use Rattle.reasons.specs.Shortages.{plannable, smallest_sum, available, shortage_of}
use Rattle.reasons.specs.declared.Rooms.{Rooms}

-- what the other stations' smallest S leave to station i
abbrev pub left_for : Set → ℕ → ℕ
left_for t i = available t - (smallest_sum t - smallest_at t i)

-- X at the largest multiple of the grid in what is left
abbrev pub largest_with : ℕ → ℕ → ℕ → ℕ → ℕ
largest_with grid ttrt d left = least_time ttrt d (left / grid * grid)

-- that of station i
abbrev pub largest_c : Set → ℕ → ℕ
largest_c t i = largest_with t.head.grid t.head.ttrt (at t.d i) (left_for t i)

-- the set has a plan: it is planned, and nothing is missing
abbrev pub fits : Set → Bool
fits t = plannable t && eqb (shortage_of t).missing 0

-- the largest C of each station; zeros of a set that has no plan
unfoldable pub rooms_of : Set → Rooms
rooms_of t = cond (fits t) (record { c = fill t.n (largest_c t) zeros }) (record { c = zeros })

-- the set with another C at station i
abbrev pub with_longest : Set → ℕ → ℕ → Set
with_longest t i x = record { head = t.head; n = t.n; w = t.w; c = set t.c i x; d = t.d; p = t.p }

-- C may be so large at station i, and no larger
pub record Largest (t : Set) (i x : ℕ) : Type 0 where
  -- planning finds a plan with every C up to it, all else as it is, and with no other
  pub exact : (c : ℕ) → ((planned (with_longest t i c)).number ≡ 0) ↔ (c ≤ x)
  -- with every larger one in range it answers 6
  pub six : (c : ℕ) → x < c → c ≤ most_c → (planned (with_longest t i c)).number ≡ 6
  -- it is never above D
  pub never_above : x ≤ at t.d i
  -- and never below C
  pub never_below : at t.c i ≤ x
