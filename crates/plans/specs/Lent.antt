-- A set and an allocation whose arrays are lent one by one.
use Rattle.std.specs.Prelude.{ℕ, ◌+◌, ◌≤◌, ◌<◌, ◌^◌, ◌≡◌, Bool, List, leb}
use Rattle.units.specs.Places.{at}
use Rattle.sets.specs.Lent.{set_of}
use Rattle.sets.specs.declared.Head.{Head}
use Rattle.sets.specs.declared.Set.{Set}
use Rattle.plans.specs.Rules.{least_time, rules_fit}
use Rattle.plans.specs.declared.Alloc.{Alloc}

-- the allocation of what S holds
abbrev pub alloc_of : List ℕ → Alloc
alloc_of s = record { s = s }

-- the deadline rule of a timely-token set at station i
abbrev pub timely_fits_in : ℕ → List ℕ → List ℕ → (ℕ → ℕ) → ℕ → Bool
timely_fits_in ttrt c d s i = leb (at c i) (least_time ttrt (at d i) (s i))

-- r says whether the rules hold; P has no part in them
abbrev pub RulesFitIn : Head → ℕ → List ℕ → List ℕ → List ℕ → (ℕ → ℕ) → Bool → Type 0
RulesFitIn head n w c d s r = (p : List ℕ) → r ≡ rules_fit (set_of head n w c d p) s

-- each smallest S has room in 32 bits: it is never above C + TTRT + g
abbrev pub Plannable : Set → Type 0
Plannable t = (t.n ≤ 128) × ((i : ℕ) → i < t.n → at t.c i + t.head.ttrt + t.head.grid < 2 ^ 32)
