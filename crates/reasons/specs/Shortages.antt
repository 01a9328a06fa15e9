-- 6: what the smallest S need together, what there is, and the missing ticks; whether a station is too much by itself, and whether the grid is the cause.
use Rattle.std.specs.Prelude.{ℕ, ◌+◌, ◌-◌, ◌≡◌, Bool, cond, ◌&&◌, ltb, eqb}
use Rattle.units.specs.Numbers.{accepted, no_allocation}
use Rattle.units.specs.Places.{sum_below}
use Rattle.sets.specs.Judged.{judged}
use Rattle.sets.specs.declared.Set.{Set}
use Rattle.plans.specs.Rules.{lost, Retired, in_use}
use Rattle.plans.specs.Planned.{smallest_at, planned}
use Rattle.reasons.specs.declared.Shortage.{Shortage}

-- planning answers 6 or a plan: the set is judged 0, and its mode is not retired
abbrev pub Plannable : Set → Type 0
Plannable t = (judged t ≡ 0) × ¬ Retired t

-- the same as a test
abbrev pub plannable : Set → Bool
plannable t = eqb (judged t) accepted && in_use t

-- the sum of the smallest S
abbrev pub smallest_sum : Set → ℕ
smallest_sum t = sum_below t.n (smallest_at t)

-- what they need of TTRT: the sum of the smallest S, τ and F − 1
abbrev pub needed : Set → ℕ
needed t = smallest_sum t + lost t

-- what there is for all S: TTRT − τ − (F − 1), held at 0
abbrev pub available : Set → ℕ
available t = t.head.ttrt - lost t

-- the missing ticks: what is needed − TTRT, held at 0
abbrev pub missing : Set → ℕ
missing t = needed t - t.head.ttrt

abbrev pub no_shortage : Shortage
no_shortage = record { sum = 0; needed = 0; available = 0; missing = 0 }

-- all of it; zeros of a set that planning refuses with another number than 6
unfoldable pub shortage_of : Set → Shortage
shortage_of t =
    cond (plannable t) (record { sum = smallest_sum t; needed = needed t; available = available t; missing = missing t })
    no_shortage

-- S, of one station, is above what there is for all
abbrev pub too_much : ℕ → ℕ → Bool
too_much there s = ltb there s

-- the set with another grid
abbrev pub with_grid : Set → ℕ → Set
with_grid t g =
    record {
      head = record { ttrt = t.head.ttrt; mode = t.head.mode; frame = t.head.frame; grid = g };
      n = t.n;
      w = t.w;
      c = t.c;
      d = t.d;
      p = t.p;
    }

-- planning answers 6, and with g 1 there is a plan
abbrev pub grid_is_cause : Set → Bool
grid_is_cause t = eqb (planned t).number no_allocation && eqb (planned (with_grid t 1)).number accepted
