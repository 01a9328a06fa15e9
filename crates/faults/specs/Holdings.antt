-- 7: what a given plan keeps of the rules, station by station, and the sum of S against the token rule.
use Rattle.std.specs.Prelude.{ℕ, ◌+◌, ◌-◌, ◌<◌, ◌≡◌, Bool, true, false, cond, not, ◌&&◌, ◌⊎◌, leb, ltb, eqb}
use Rattle.units.specs.Numbers.{fddi, most_stations}
use Rattle.units.specs.Grid.{on_grid}
use Rattle.units.specs.Places.{at, sum_below}
use Rattle.sets.specs.declared.Head.{Head}
use Rattle.sets.specs.declared.Set.{Set}
use Rattle.fddi.specs.Rules as fddi-rules
use Rattle.plans.specs.Rules.{lost, least_time, time_at}
use Rattle.plans.specs.Planned.{smallest_for}
use Rattle.plans.specs.declared.Alloc.{Alloc}
use Rattle.faults.specs.declared.Holding.{Holding}
use Rattle.faults.specs.declared.Token.{Token}

-- there is a station with this number
abbrev pub is_station : Set → ℕ → Bool
is_station t i = leb t.n most_stations && ltb i t.n

-- of modes 1 and 3: by how much S is above the smallest that meets the deadline rule; there is no smallest in mode 2
unfoldable pub excess_of : Head → ℕ → ℕ → ℕ → ℕ
excess_of h c d s = cond (eqb h.mode fddi) 0 (s - smallest_for h.grid h.ttrt c d)

-- what a station with C, D and S holds, where X is so large: whether that is below C, whether S is off the grid, and what it has more than need be
abbrev pub holding_with : Head → ℕ → ℕ → ℕ → ℕ → Holding
holding_with h c d s time =
    record { time = time; short = ltb time c; off_grid = not (on_grid h.grid s); excess = excess_of h c d s }

-- what station i holds, with X by the mode; nothing where there is no such station
unfoldable pub holding_at : Set → Alloc → ℕ → Holding
holding_at t a i =
    cond (is_station t i) (holding_with t.head (at t.c i) (at t.d i) (at a.s i) (time_at t (at a.s) i))
    (record { time = 0; short = false; off_grid = false; excess = 0 })

-- the sum of S, what there is for it, TTRT − τ − (F − 1), and by how much it is too much; each held at 0
abbrev pub token_of : Set → Alloc → Token
token_of t a =
    record {
      sum = sum_below t.n (at a.s);
      available = t.head.ttrt - lost t;
      over = sum_below t.n (at a.s) + lost t - t.head.ttrt;
    }

-- some station has the fault
abbrev pub AtSome : Set → (ℕ → Bool) → Type 0
AtSome t fault = (i : ℕ) × ((i < t.n) × (fault i ≡ true))

-- the plan has a fault: X below C at some station, an S off the grid, or too large a sum
abbrev pub Faulty : Set → Alloc → Type 0
Faulty t a =
    AtSome t (λ i. (holding_at t a i).short) ⊎ (AtSome t (λ i. (holding_at t a i).off_grid) ⊎ (0 < (token_of t a).over))

-- ---- X over plain numbers, as the code asks for it

-- X by the mode, where in FDDI `away` ticks of a rotation are not the station's own
unfoldable pub time_by : Head → ℕ → ℕ → ℕ → ℕ
time_by h d away s = cond (eqb h.mode fddi) (fddi-rules.least_time h.ttrt d away s) (least_time h.ttrt d s)
